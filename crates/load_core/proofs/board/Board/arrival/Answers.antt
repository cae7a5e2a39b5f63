-- What a start or a load attaches follows from the counts, and what begins from the places.
use Rattle.std.proofs.Common.{◌≡◌, ℕ, ◌+◌, ◌<◌, List, length, Ok, Err, sym, ◌∙◌, ap, subst}
use Rattle.std.specs.Prelude.{All}
use Rattle.std.proofs.lemmas.List.{length-map}
use Rattle.std.specs.Arc.{arc_value}
use Rattle.lx_types.specs.Answers.{Answers}
use Rattle.load_model.specs.declared.deeds.Fresh.{Fresh}
use Rattle.load_model.specs.Modules.{Library}
use Rattle.load_model.specs.State.{Eager}
use Rattle.load_model.specs.Entering.{resident_ranges, placed_from, entering_calls}
use Rattle.load_model.specs.declared.commands.Ask.TheVariants.{Enter as enter}
use Rattle.residence_table.specs.declared.entry.Entering.{Entering}
use Rattle.residence_table.specs.Residences.{residences, unwritten_residences}
use Rattle.residence_table.specs.Placing.{no_room_of}
use Rattle.residence_table.specs.Called.{IsWithin, IsEnteringOf}
use Rattle.load_core.specs.BoardState.{BoardState, state_of, MayAsk}
use Rattle.load_core.specs.Enters.{IsArrival, IsWithoutRoom}
use Rattle.load_core.specs.Inside.{board_state_in}
use Rattle.load_core.proofs.Arriving.{module_asked, unreached_new, new_in, is_within, is_entering, placed_by, handed_on, gained_in}
use Rattle.load_core.proofs.board.Board.arrival.Goals as goal

pub gain-requires-clause-module : goal.gain-requires-clause-module
gain-requires-clause-module c =
    let M : BoardState → Type 0 = λ a. MayAsk a c.args.at.pid (enter c.args.at.how c.args.at.«module») in
    let L : Library → Type 0 = λ lib. c.args.at.«module» < length lib in
    subst L (sym c.deref.ensures) (module_asked (board_state_in c.self.inside) c.args.at.pid c.args.at.how c.args.at.«module» (subst M (sym c.self.view_is) c.requires.may))

pub place-placed-requires-clause-within : goal.place-placed-requires-clause-within
place-placed-requires-clause-within c =
    let gave = gained_in c.deref.result.now (arc_value c.self.inside.lib) (state_of (board_state_in c.self.inside)) c.self.inside.refs c.args.at.pid c.args.at.«module» c.in_ok-gained.gained c.deref.ensures c.in_ok-gained.ensures c.self.invariant.reached in
    let M : BoardState → Type 0 = λ a. MayAsk a c.args.at.pid (enter c.args.at.how c.args.at.«module») in
    let W : List ℕ → Type 0 = λ ms. All (λ k. k < length (arc_value c.self.inside.lib)) ms in
    let L : Library → Type 0 = λ lib. All (λ k. k < length lib) c.deref-3.result.now in
    subst L (sym c.deref-2.ensures)
    (subst W (sym (c.deref-3.ensures.value ∙ gave.fresh ∙ unreached_new c.residents_are_reached.ensures.resident (board_state_in c.self.inside) c.args.at.pid c.args.at.«module» c.self.invariant.legal))
    (new_in c.order_is_reach.ensures.within (board_state_in c.self.inside) c.args.at.pid c.args.at.«module»
    (module_asked (board_state_in c.self.inside) c.args.at.pid c.args.at.how c.args.at.«module» (subst M (sym c.self.view_is) c.requires.may))))

pub returns-in-Err : goal.returns-in-Err
returns-in-Err c =
    let gave = gained_in c.deref.result.now (arc_value c.self.inside.lib) (state_of (board_state_in c.self.inside)) c.self.inside.refs c.args.at.pid c.args.at.«module» c.in_ok-gained.gained c.deref.ensures c.in_ok-gained.ensures c.self.invariant.reached in
    let b = board_state_in c.self.inside in
    let e = state_of b in
    let W : BoardState → Type 0 = λ a. Answers (Err c.in-Err.why) (IsArrival a c.args.at) (IsWithoutRoom a c.args.at) in
    let new = c.deref-3.ensures.value ∙ gave.fresh ∙ unreached_new c.residents_are_reached.ensures.resident b c.args.at.pid c.args.at.«module» c.self.invariant.legal in
    let P : Library → Type 0 = λ lib. (e : Eager) → unwritten_residences e ≡ residences c.self.inside.table → Answers (Err c.in-Err.why)
    (λ (fresh : List Fresh). placed_from lib c.given-given.result (resident_ranges lib e) c.deref-3.result.now ≡ Ok fresh)
    (λ none. placed_from lib c.given-given.result (resident_ranges lib e) c.deref-3.result.now ≡ Err (no_room_of none))
    in
    subst W c.self.view_is
    (handed_on (λ (fresh : List Fresh). placed_from b.library c.given-given.result (resident_ranges b.library e) c.deref-3.result.now ≡ Ok fresh)
    (λ none. placed_from b.library c.given-given.result (resident_ranges b.library e) c.deref-3.result.now ≡ Err (no_room_of none)) (IsArrival b c.args.at) (IsWithoutRoom b c.args.at) c.in-Err.why
    (λ none is. placed_by b.library e c.args.at.pid c.args.at.«module» c.given-given.result c.deref-3.result.now (Err (no_room_of none)) (c.given-given.ensures ∙ c.self.invariant.given) new is)
    (subst P c.deref-2.ensures c.in-Err.ensures.answer e (sym c.self.invariant.residences_are)))

pub entering_calls-requires : goal.entering_calls-requires
entering_calls-requires c =
    let gave = gained_in c.deref.result.now (arc_value c.self.inside.lib) (state_of (board_state_in c.self.inside)) c.self.inside.refs c.args.at.pid c.args.at.«module» c.in_ok-gained.gained c.deref.ensures c.in_ok-gained.ensures c.self.invariant.reached in
    let b = board_state_in c.self.inside in
    let M : BoardState → Type 0 = λ a. MayAsk a c.args.at.pid (enter c.args.at.how c.args.at.«module») in
    let x : Entering = record { how = c.args.at.how; «module» = c.args.at.«module»; joined = c.deref-4.result; fresh = c.as_slice.result } in
    let W : Library → Type 0 = λ lib. IsWithin lib x in
    subst W (sym c.deref-5.ensures)
    (is_within c.order_is_reach.ensures.within b c.args.at.pid x (subst M (sym c.self.view_is) c.requires.may) (c.deref-4.ensures.value ∙ gave.joined))

pub returns : goal.returns
returns c =
    let gave = gained_in c.deref.result.now (arc_value c.self.inside.lib) (state_of (board_state_in c.self.inside)) c.self.inside.refs c.args.at.pid c.args.at.«module» c.in_ok-gained.gained c.deref.ensures c.in_ok-gained.ensures c.self.invariant.reached in
    let b = board_state_in c.self.inside in
    let e = state_of b in
    let A : BoardState → Type 0 = λ a. IsArrival a c.args.at (record { joined = c.in_ok-gained.gained.joined; fresh = c.in-Ok.fresh; serials = c.in-Some.serials; calls = c.in_ok-calls.calls }) in
    let x : Entering = record { how = c.args.at.how; «module» = c.args.at.«module»; joined = c.deref-4.result; fresh = c.as_slice.result } in
    let P : Library → Type 0 = λ lib. (e : Eager) → unwritten_residences e ≡ residences c.self.inside.table →
    placed_from lib c.given-given.result (resident_ranges lib e) c.deref-3.result.now ≡ Ok c.in-Ok.fresh
    in
    let C : Library → Type 0 = λ lib. (e : Eager) (pid : ℕ) → unwritten_residences e ≡ residences c.self.inside.table → IsEnteringOf lib e pid x
    → c.in_ok-calls.calls ≡ entering_calls lib e pid c.args.at.how c.args.at.«module» c.as_slice.result.now
    in
    let new = c.deref-3.ensures.value ∙ gave.fresh ∙ unreached_new c.residents_are_reached.ensures.resident b c.args.at.pid c.args.at.«module» c.self.invariant.legal in
    let placed = placed_by b.library e c.args.at.pid c.args.at.«module» c.given-given.result c.deref-3.result.now (Ok c.in-Ok.fresh) (c.given-given.ensures ∙ c.self.invariant.given) new
    (subst P c.deref-2.ensures c.in-Ok.ensures.answer e (sym c.self.invariant.residences_are))
    in
    let many = ap length (sym c.deref-3.ensures.value ∙ sym c.in-Ok.ensures.modules) ∙ length-map c.in-Ok.fresh (λ (f : Fresh). f.«module») in
    subst A c.self.view_is
    (record {
      joined = gave.joined;
      placed = placed;
      serials = c.in-Some.ensures.1 ∙ ap (λ n. n + c.len.result) (c.given-given.ensures ∙ c.self.invariant.given) ∙ ap (λ n. e.serials + n) (c.len.ensures ∙ c.in_ok-gained.gained.fresh.ok.0 ∙ many);
      calls =
          subst C c.deref-5.ensures c.in_ok-calls.ensures e c.args.at.pid (sym c.self.invariant.residences_are)
          (is_entering b c.args.at.pid x c.in-Ok.fresh (c.deref-4.ensures.value ∙ gave.joined) c.as_slice.ensures placed)
          ∙ ap (entering_calls b.library e c.args.at.pid c.args.at.how c.args.at.«module») c.as_slice.ensures;
    })
