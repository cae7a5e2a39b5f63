-- What a load calls whose initialisation fails, and what ends again, are those of its entry.
use Rattle.std.proofs.Common.{◌≡◌, Some, sym, ◌∙◌, ap, subst}
use Rattle.std.specs.Arc.{arc_value}
use Rattle.load_model.specs.Modules.{Library}
use Rattle.load_model.specs.State.{Eager}
use Rattle.load_model.specs.Entering.{entering_calls}
use Rattle.load_model.specs.Initialising.{failed_calls, gone_again}
use Rattle.load_model.specs.declared.commands.Ask.TheVariants.{Enter as enter}
use Rattle.residence_table.specs.declared.entry.Entering.{Entering}
use Rattle.residence_table.specs.declared.entry.Failure.{Failure}
use Rattle.residence_table.specs.Residences.{residences, unwritten_residences}
use Rattle.residence_table.specs.Called.{IsWithin, IsEnteringOf, IsFailureOf}
use Rattle.load_core.specs.BoardState.{BoardState, state_of, MayAsk}
use Rattle.load_core.specs.Enters.{IsArrival, IsUndoing, failing_of}
use Rattle.load_core.specs.Inside.{board_state_in}
use Rattle.load_core.proofs.Arriving.{failed_deed, is_within, is_entering}
use Rattle.load_core.proofs.board.Board.undoing.Goals as goal

pub failed_calls-requires : goal.failed_calls-requires
failed_calls-requires c =
    let b = board_state_in c.self.inside in
    let M : BoardState → Type 0 = λ a. MayAsk a c.args.at.pid (enter c.args.at.how c.args.at.«module») in
    let A : BoardState → Type 0 = λ a. IsArrival a c.args.at c.args.arrival.now in
    let x : Entering = record { how = c.args.at.how; «module» = c.args.at.«module»; joined = c.deref.result; fresh = c.as_slice.result } in
    let W : Library → Type 0 = λ lib. IsWithin lib x in
    subst W (sym c.deref-3.ensures)
    (is_within c.order_is_reach.ensures.within b c.args.at.pid x (subst M (sym c.self.view_is) c.requires.may) (c.deref.ensures.value ∙ (subst A (sym c.self.view_is) c.requires.arrival).joined))

pub returns : goal.returns
returns c =
    let b = board_state_in c.self.inside in
    let e = state_of b in
    let A : BoardState → Type 0 = λ a. IsArrival a c.args.at c.args.arrival.now in
    let F : BoardState → Type 0 = λ a. failing_of a c.args.at c.args.arrival.now ≡ Some c.args.by in
    let it = subst A (sym c.self.view_is) c.requires.arrival in
    let x : Entering = record { how = c.args.at.how; «module» = c.args.at.«module»; joined = c.deref.result; fresh = c.as_slice.result } in
    let f : Failure = record { pid = c.args.at.pid; by = c.args.by; pairs = c.deref-2.result; calls = c.as_slice-2.result } in
    let C : Library → Type 0 = λ lib. (e : Eager) → unwritten_residences e ≡ residences c.self.inside.table → IsEnteringOf lib e c.args.at.pid x → IsFailureOf lib e x f
    → c.in_ok-calls.calls ≡ failed_calls lib e c.args.at.pid c.args.at.how c.args.at.«module» c.args.by c.as_slice.result.now
    in
    let pairs = c.failed_loads_leave_nothing.ensures.fixed (arc_value c.self.inside.lib) c.self.inside.failing.items c.self.inside.history.items in
    let fails : IsFailureOf b.library e x f = record {
      pairs = c.deref-2.ensures.value ∙ sym pairs;
      calls = c.as_slice-2.ensures ∙ it.calls ∙ ap (entering_calls b.library e c.args.at.pid c.args.at.how c.args.at.«module») (sym c.as_slice.ensures);
    }
    in
    let called = subst C c.deref-3.ensures c.in_ok-calls.ensures e (sym c.self.invariant.residences_are)
    (is_entering b c.args.at.pid x c.args.arrival.now.fresh (c.deref.ensures.value ∙ it.joined) c.as_slice.ensures it.placed) fails
    in
    subst (λ a. IsUndoing a c.args.at c.args.by c.args.arrival.now (record { calls = c.in_ok-calls.calls; gone = c.in_ok-gone.gone })) c.self.view_is
    (failed_deed b.library e c.args.at.pid c.args.at.how c.args.at.«module» c.args.by c.args.arrival.now.fresh c.in_ok-calls.calls c.in_ok-gone.gone it.placed (subst F (sym c.self.view_is) c.requires.by)
    (called ∙ ap (failed_calls b.library e c.args.at.pid c.args.at.how c.args.at.«module» c.args.by) c.as_slice.ensures) (c.in_ok-gone.ensures ∙ ap gone_again c.as_slice-3.ensures))
