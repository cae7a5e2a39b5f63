use Rattle.process_view.proofs.Words.{ap, AreCountsOf, asked_by, at_front, BoardState, length, refl, state_of, ◌∙◌, ◌≡◌}
use Rattle.process_view.proofs.Did.{may_by, adds_by, with_asked, IsAt, leave_asked, done_by}
use Rattle.process_view.proofs.Left.{can_leave, did_left, read_left}
use Rattle.process_view.proofs.view.View.leave.Goals as goal

pub add_leave-requires-clause-may : goal.add_leave-requires-clause-may
add_leave-requires-clause-may c =
    let v = c.args.self.now in
    let b = c.args.board.now in
    let ask = asked_by c.args.what in
    let here : IsAt b v = record { process = c.pid-pid.ensures.process; legal = c.history.ensures.legal; stands = c.requires.stands } in
    may_by b v c.requires.planned.0 ask ask c.pid-pid.result (leave_asked b v c.requires.planned.0 c.args.what here c.requires.planned.1) c.pid-pid.ensures.number refl

pub give_up-requires-clause-held : goal.give_up-requires-clause-held
give_up-requires-clause-held c =
    let v = c.args.self.now in
    can_leave c.order_is_reach.ensures.within c.order_is_reach.ensures.once c.loads_are_counted.ensures.counted c.args.board.now v c.requires.planned.0 c.args.what c.requires.stands c.requires.planned.1

pub give_up-requires-clause-counts : goal.give_up-requires-clause-counts
give_up-requires-clause-counts c =
    let v = c.args.self.now in
    let p = (state_of c.args.board.now).processes v.holding.pid in
    (p, rw c.requires.stands.library c.requires.stands.stands.view.counts)

pub returns : goal.returns
returns c = λ command plan.
    let v = c.args.self.now in
    let b = c.args.board.now in
    let what = c.args.what in
    let here : IsAt b v = record { process = c.pid-pid.ensures.process; legal = c.history.ensures.legal; stands = c.requires.stands } in
    let is = leave_asked b v command what here plan in
    let p = (state_of b).processes v.holding.pid in
    let w = c.give_up.new.self in
    let counts = w.holding.counts in
    let own : AreCountsOf v.library p v.holding.counts = rw c.requires.stands.library c.requires.stands.stands.view.counts in
    let adds : c.add_leave.new.board ≡ with_asked b v (asked_by what) = adds_by b c.add_leave.new.board v (asked_by what) (asked_by what) c.pid-pid.result c.in_ok-add_leave.ensures.entry c.pid-pid.ensures.number refl in
    done_by b c.add_leave.new.board v _ c.follow.new.self command (asked_by what) _
    (did_left c.views_stand.ensures.left c.views_stand.ensures.kept c.views_stand.ensures.touched c.residences_stay.ensures.still c.residences_stay.ensures.bases b v command what counts w.page_room w.residence_room is
    (rw c.requires.stands.library at (c.give_up.ensures.counts p (state_of b) own)))
    adds
    (c.follow.ensures ∙ ap (λ (l : BoardState). at_front (length l.history) w) adds ∙ ap (at_front (length (with_asked b v (asked_by what)).history)) (c.give_up.ensures.rest p own))
    (read_left b v.holding.pid what)
