-- What is given up leaves once its entry stands.
use Rattle.std.proofs.Common.{◌≡◌, ◌∷◌, ◌++◌, [], ℕ, List, not, filter, sym, ◌∙◌, ap, subst}
use Rattle.load_model.specs.declared.deeds.Deed.{Deed}
use Rattle.load_model.specs.declared.deeds.Entry.{Entry}
use Rattle.load_model.specs.Modules.{Library}
use Rattle.load_model.specs.State.{Residence, Eager, is_among}
use Rattle.mod_refs.specs.AllCounts.{AreCountsOfAll}
use Rattle.mod_refs.specs.Changes.{with_given_up}
use Rattle.load_core.specs.BoardState.{BoardState, state_of, MayAsk, Adds}
use Rattle.load_core.specs.Kept.{Keeps}
use Rattle.load_core.specs.Leaves.{asked_by, IsDeparture}
use Rattle.load_core.specs.Inside.{board_state_in}
use Rattle.load_core.specs.declared.residence_parts.ResidenceParts.{ResidenceParts}
use Rattle.load_core.proofs.Leaving.{is_held, leaving_entry, departed, keeps_left}
use Rattle.load_core.proofs.board.Board.leave.Goals as goal

pub detach-requires-clause-held : goal.detach-requires-clause-held
detach-requires-clause-held c =
    let M : BoardState → Type 0 = λ b. MayAsk b c.args.pid (asked_by c.args.what) in
    is_held c.order_is_reach.ensures.last c.reached_is_fit.ensures.reached (board_state_in c.self.inside) c.self.inside.refs c.args.pid c.args.what c.self.invariant.legal c.self.invariant.reached
    c.requires.process (subst M (sym c.self.view_is) c.requires.may)

left_by : (c : goal.After-drop-departure-2) → IsDeparture (board_state_in c.self.inside) c.args.pid c.args.what c.in_ok-departure.departure
left_by c = (let D : BoardState → Type 0 = λ b. IsDeparture b c.args.pid c.args.what c.in_ok-departure.departure in subst D (sym c.self.view_is) c.in_ok-departure.ensures)

grown : (c : goal.After-drop-departure-2) →
    c.push_reserved.new.self.items ≡ c.self.inside.history.items ++ leaving_entry c.args.pid c.args.what c.in_ok-departure.departure.calls c.in_ok-departure.departure.gone ∷ []
grown c =
    let E : Deed → Entry = λ deed. record { pid = c.args.pid; deed = deed } in
    c.push_reserved.ensures.items ∙ ap (λ (h : List Entry). h ++ E c.deed_for-deed.result ∷ []) c.reserve.ensures.items
    ∙ ap (λ (deed : Deed). c.self.inside.history.items ++ E deed ∷ []) c.deed_for-deed.ensures

pub invariant_of-self-2 : goal.invariant_of-self-2
invariant_of-self-2 c =
    let b = board_state_in c.self.inside in
    let M : BoardState → Type 0 = λ b. MayAsk b c.args.pid (asked_by c.args.what) in
    let R : Library → Type 0 = λ lib. (e : Eager) → AreCountsOfAll lib e c.self.inside.refs → AreCountsOfAll lib (with_given_up lib e c.args.pid c.args.what) c.detach.new.self in
    let H : List Entry → Type 0 = λ h. Keeps (record b { history = h }) c.detach.new.self c.end.new.self c.self.inside.keeper.given in
    let S : List (Residence × ResidenceParts) → Type 0 = λ ss. Keeps (record b {
      history = c.self.inside.history.items ++ leaving_entry c.args.pid c.args.what c.in_ok-departure.departure.calls c.in_ok-departure.departure.gone ∷ [];
    }) c.detach.new.self ss c.self.inside.keeper.given
    in
    let F : List ℕ → List (Residence × ResidenceParts) = λ ms. filter (λ s. not (is_among ms s.0.«module»)) c.self.inside.table in
    subst H (sym (grown c))
    (subst S (sym (c.end.ensures ∙ ap F c.deref-2.ensures.value))
    (keeps_left c.residences_stay.ensures.bases b c.self.inside.refs c.detach.new.self c.self.inside.table c.self.inside.keeper.given c.args.pid c.args.what c.in_ok-departure.departure.calls
    c.in_ok-departure.departure.gone c.in_ok-departure.departure.modules.items c.self.invariant c.requires.process (subst M (sym c.self.view_is) c.requires.may)
    (departed b c.args.pid c.args.what c.in_ok-departure.departure (left_by c)) (subst R c.deref.ensures c.detach.ensures.left (state_of b) c.self.invariant.reached) (left_by c).modules))

pub returns-clause-entry : goal.returns-clause-entry
returns-clause-entry c =
    let b = board_state_in c.self.inside in
    let H : List Entry → BoardState = λ h. record b { history = h } in
    let N : Entry → BoardState = λ x. record b { history = c.self.inside.history.items ++ x ∷ [] } in
    let A : BoardState → Type 0 = λ a. Adds a (record b { history = c.push_reserved.new.self.items }) c.args.pid (asked_by c.args.what) in
    subst A c.self.view_is (ap H (grown c) ∙ ap N (departed b c.args.pid c.args.what c.in_ok-departure.departure (left_by c)))
