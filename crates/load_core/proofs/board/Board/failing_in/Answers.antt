-- The first initialisation that fails is looked for among the calls.
use Rattle.std.proofs.Common.{◌≡◌, List, find, option_map, sym, ◌∙◌, ap, subst}
use Rattle.std.specs.Arc.{arc_value}
use Rattle.load_model.specs.declared.deeds.Call.{Call}
use Rattle.load_model.specs.Initialising.{is_failing}
use Rattle.load_core.specs.BoardState.{BoardState, state_of}
use Rattle.load_core.specs.Enters.{IsArrival, failing_of}
use Rattle.load_core.specs.Inside.{board_state_in}
use Rattle.load_core.proofs.Arriving.{failing_by}
use Rattle.load_core.proofs.board.Board.failing_in.Goals as goal

pub returns : goal.returns
returns c =
    let b = board_state_in c.self.inside in
    let e = state_of b in
    let A : BoardState → Type 0 = λ a. IsArrival a c.args.at c.args.arrival.now in
    let F : BoardState → Type 0 = λ a. c.failing_module.result ≡ failing_of a c.args.at c.args.arrival.now in
    let it = subst A (sym c.self.view_is) c.requires in
    let pairs = c.failed_loads_leave_nothing.ensures.fixed (arc_value c.self.inside.lib) c.self.inside.failing.items c.self.inside.history.items ∙ sym c.deref.ensures.value in
    subst F c.self.view_is
    (c.failing_module.ensures e pairs ∙ ap (λ (cs : List Call). option_map (λ (k : Call). k.«module») (find (is_failing e c.args.at.pid) cs)) c.as_slice.ensures
    ∙ failing_by b.library e c.args.at.pid c.args.at.how c.args.at.«module» c.args.arrival.now.fresh c.args.arrival.now.calls it.calls)
