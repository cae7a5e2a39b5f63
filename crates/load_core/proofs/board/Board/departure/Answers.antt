-- What leaves is what the counts no longer reach.
use Rattle.std.proofs.Common.{◌<◌, ℕ, List, length, sym, ◌∙◌, subst}
use Rattle.std.specs.Prelude.{All}
use Rattle.std.specs.Arc.{arc_value}
use Rattle.load_model.specs.Modules.{Library, fixed_bytes}
use Rattle.load_model.specs.State.{Eager}
use Rattle.mod_refs.specs.AllCounts.{AreCountsOfAll}
use Rattle.mod_refs.specs.Changes.{IsLost}
use Rattle.load_core.specs.BoardState.{BoardState, state_of, MayAsk}
use Rattle.load_core.specs.Leaves.{asked_by}
use Rattle.load_core.specs.Inside.{board_state_in}
use Rattle.load_core.proofs.Leaving.{is_held, left_in_library}
use Rattle.load_core.proofs.board.Board.departure.Goals as goal

pub lose-requires-clause-held : goal.lose-requires-clause-held
lose-requires-clause-held c =
    let M : BoardState → Type 0 = λ b. MayAsk b c.args.pid (asked_by c.args.what) in
    is_held c.order_is_reach.ensures.last c.reached_is_fit.ensures.reached (board_state_in c.self.inside) c.self.inside.refs c.args.pid c.args.what c.self.invariant.legal c.self.invariant.reached
    c.requires.process (subst M (sym c.self.view_is) c.requires.may)

pub leaving_calls-requires : goal.leaving_calls-requires
leaving_calls-requires c =
    let lib = arc_value c.self.inside.lib in
    let L : Library → Type 0 = λ lib. (e : Eager) → AreCountsOfAll lib e c.self.inside.refs → IsLost lib e c.args.pid c.args.what c.in_ok-lost.lost in
    let W : List ℕ → Type 0 = λ ms. All (λ k. k < length lib) ms in
    let V : Library → Type 0 = λ lib. All (λ k. k < length lib) c.deref-2.result.now in
    let kept = (c.legal_counts_are_kept.ensures lib c.self.inside.failing.items (fixed_bytes lib) c.self.inside.history.items c.self.inside.refs c.self.invariant.legal c.self.invariant.reached).each c.args.pid c.requires.process in
    let gave = subst L c.deref.ensures c.in_ok-lost.ensures (state_of (board_state_in c.self.inside)) c.self.invariant.reached in
    subst V (sym c.deref-4.ensures)
    (subst W (sym (c.deref-2.ensures.value ∙ gave.left)) (left_in_library (board_state_in c.self.inside) c.self.inside.refs c.args.pid c.args.what c.self.invariant.reached c.requires.process kept))
