use Rattle.std.proofs.Common.{ap, arith, length, List, refl, sym, ◌∙◌, ◌≡◌, ◌≤◌}
use Rattle.process_view.proofs.Words.{at_front, enter, joined, modules_of, Parts, state_of, with_counts, with_residences}
use Rattle.process_view.proofs.Did.{may_by, adds_by, IsAt, enter_asked, done_by}
use Rattle.process_view.proofs.Enters.{can_count, answered, did_done, entered_at, failed_told, fits, full_told, news_told, read_entered, can_join, joined_inside, modules_shown}
use Rattle.process_view.proofs.view.View.enter.Goals as goal

pub rows_for-requires : goal.rows_for-requires
rows_for-requires c =
    let v = c.args.self.now in
    let b = c.args.board.now in
    joined_inside c.order_is_reach.ensures.within b v c.args.m c.deref.result.now c.requires.stands.library c.requires.planned.1.means.2.1
    (c.deref.ensures.value ∙ c.in_ok-joining.ensures b c.requires.stands)

pub load-requires-clause-may : goal.load-requires-clause-may
load-requires-clause-may c =
    let v = c.args.self.now in
    let b = c.args.board.now in
    let here : IsAt b v = record { process = c.pid-pid.ensures.process; legal = c.history.ensures.legal; stands = c.requires.stands } in
    let ask = enter c.args.how c.args.m in
    may_by b v c.requires.planned.0 ask ask c.pid-pid.result (enter_asked b v c.requires.planned.0 c.args.how c.args.m here c.requires.planned.1) c.pid-pid.ensures.number refl

pub keep_joined-requires-clause-new : goal.keep_joined-requires-clause-new
keep_joined-requires-clause-new c =
    let v = c.args.self.now in
    let b = c.args.board.now in
    let w = c.reserve_residences.new.self in
    let here : IsAt b v = record { process = c.pid-pid.ensures.process; legal = c.history.ensures.legal; stands = c.requires.stands } in
    let told =
    answered b c.load.new.self v w c.requires.planned.0 c.args.how c.args.m c.pid-pid.result c.in_ok-joined.field-0 here c.requires.planned.1 c.pid-pid.ensures.number c.in_ok-joined.ensures.entry c.in_ok-joined.ensures.answer
    c.in_ok-reserve_residences.ensures.same
    in
    let is = entered_at b c.load.new.self v w c.requires.planned.0 c.args.how c.args.m c.pid-pid.result c.in_ok-joined.field-0 c.in-Done.joined told c.in-Done.is in
    let news = news_told b c.load.new.self v w c.requires.planned.0 c.args.how c.args.m c.pid-pid.result c.in_ok-joined.field-0 c.in-Done.joined told c.in-Done.is in
    let joining = c.in_ok-joining.ensures b c.requires.stands in
    let enough = fits c.in_ok-joining.joining w.residence_room c.len-2.result c.len-2.ensures c.in_ok-reserve_residences.ensures.room in
    rw c.in_ok-reserve_residences.ensures.same
    (rw news
    (can_join c.order_is_reach.ensures.within c.order_is_reach.ensures.once b v is w.residence_room (rw c.requires.stands.library at c.requires.planned.1.means.2.1) (rw joining at enough)))

pub keep_joined-requires-clause-rows : goal.keep_joined-requires-clause-rows
keep_joined-requires-clause-rows c =
    let v = c.args.self.now in
    let b = c.args.board.now in
    let w = c.reserve_residences.new.self in
    let here : IsAt b v = record { process = c.pid-pid.ensures.process; legal = c.history.ensures.legal; stands = c.requires.stands } in
    let told =
    answered b c.load.new.self v w c.requires.planned.0 c.args.how c.args.m c.pid-pid.result c.in_ok-joined.field-0 here c.requires.planned.1 c.pid-pid.ensures.number c.in_ok-joined.ensures.entry c.in_ok-joined.ensures.answer
    c.in_ok-reserve_residences.ensures.same
    in
    let news = news_told b c.load.new.self v w c.requires.planned.0 c.args.how c.args.m c.pid-pid.result c.in_ok-joined.field-0 c.in-Done.joined told c.in-Done.is in
    let joining = c.in_ok-joining.ensures b c.requires.stands in
    let same : c.deref.result.now ≡ modules_of c.in-Done.joined.items =
    c.deref.ensures.value ∙ joining ∙ sym (ap modules_of news ∙ modules_shown b.library _ b.keeper (joined b.library (state_of b) v.holding.pid c.args.m))
    in
    rw (c.in_ok-reserve_residences.ensures.same, ← same) c.in_ok-rows.ensures

pub count_in-requires : goal.count_in-requires
count_in-requires c =
    let v = c.args.self.now in
    let few : length v.library ≤ 64 = omega (arith, c.len.ensures.few, c.len.ensures.count, ap (λ (l : List Parts). length l) c.library.ensures) in
    let can = can_count c.order_is_reach.ensures.last c.loads_are_counted.ensures.room c.counts_are_small.ensures c.reached_is_fit.ensures.reached c.args.board.now v c.requires.planned.0 c.args.how c.args.m c.history.ensures.legal
    c.requires.stands c.requires.planned.1 few in
    let is : c.keep_joined.new.self ≡ with_residences c.in-Done.joined.items (record v { residence_room = c.reserve_residences.new.self.residence_room }) =
    c.keep_joined.ensures ∙ ap (with_residences c.in-Done.joined.items) c.in_ok-reserve_residences.ensures.same
    in
    rw is (record { process = can.process; counts = can.counts; within = can.within; free = can.free; small = can.small })

pub returns-in-Done : goal.returns-in-Done
returns-in-Done c = λ command plan.
    let v = c.args.self.now in
    let b = c.args.board.now in
    let w = c.reserve_residences.new.self in
    let here : IsAt b v = record { process = c.pid-pid.ensures.process; legal = c.history.ensures.legal; stands = c.requires.stands } in
    let told =
    answered b c.load.new.self v w command c.args.how c.args.m c.pid-pid.result c.in_ok-joined.field-0 here plan c.pid-pid.ensures.number c.in_ok-joined.ensures.entry c.in_ok-joined.ensures.answer
    c.in_ok-reserve_residences.ensures.same
    in
    let is = entered_at b c.load.new.self v w command c.args.how c.args.m c.pid-pid.result c.in_ok-joined.field-0 c.in-Done.joined told c.in-Done.is in
    let news = news_told b c.load.new.self v w command c.args.how c.args.m c.pid-pid.result c.in_ok-joined.field-0 c.in-Done.joined told c.in-Done.is in
    let kept : c.keep_joined.new.self ≡ with_residences c.in-Done.joined.items (record v { residence_room = w.residence_room }) =
    c.keep_joined.ensures ∙ ap (with_residences c.in-Done.joined.items) c.in_ok-reserve_residences.ensures.same
    in
    let adds = adds_by b c.load.new.self v (enter c.args.how c.args.m) (enter c.args.how c.args.m) c.pid-pid.result c.in_ok-joined.ensures.entry c.pid-pid.ensures.number refl in
    done_by b c.load.new.self v _ c.follow.new.self command (enter c.args.how c.args.m) _
    (did_done c.order_is_reach.ensures.last c.residences_stay.ensures.still c.residences_stay.ensures.bases c.views_stand.ensures.entered b v is c.count_in.new.self w.residence_room (rw kept at c.count_in.ensures.counts)
    (c.count_in.ensures.rest ∙ ap (with_counts c.count_in.new.self.holding.counts) (kept ∙ ap (λ rs. with_residences rs (record v { residence_room = w.residence_room })) news)))
    adds (c.follow.ensures ∙ ap (λ x. at_front (length x.history) c.count_in.new.self) adds) (read_entered b v is)

pub returns-in-Full : goal.returns-in-Full
returns-in-Full c = λ command plan.
    let v = c.args.self.now in
    let b = c.args.board.now in
    let here : IsAt b v = record { process = c.pid-pid.ensures.process; legal = c.history.ensures.legal; stands = c.requires.stands } in
    full_told c.residences_stay.ensures.still c.residences_stay.ensures.bases c.views_stand.ensures.quiet b c.load.new.self v c.reserve_residences.new.self c.follow-in-Full.new.self command c.args.how c.args.m c.pid-pid.result c.front.result
    c.in_ok-joined.field-0 c.in-Full.of c.in-Full.object c.in-Full.size
    (answered b c.load.new.self v c.reserve_residences.new.self command c.args.how c.args.m c.pid-pid.result c.in_ok-joined.field-0 here plan c.pid-pid.ensures.number c.in_ok-joined.ensures.entry
    c.in_ok-joined.ensures.answer c.in_ok-reserve_residences.ensures.same)
    c.in-Full.is c.follow-in-Full.ensures c.front.ensures

pub returns : goal.returns
returns c = λ command plan.
    let v = c.args.self.now in
    let b = c.args.board.now in
    let here : IsAt b v = record { process = c.pid-pid.ensures.process; legal = c.history.ensures.legal; stands = c.requires.stands } in
    failed_told c.residences_stay.ensures.still c.residences_stay.ensures.bases c.views_stand.ensures.quiet b c.load.new.self v c.reserve_residences.new.self c.follow-in-Failed.new.self command c.args.how c.args.m c.pid-pid.result
    c.front-in-Failed.result c.in_ok-joined.field-0 c.in-Failed.by
    (answered b c.load.new.self v c.reserve_residences.new.self command c.args.how c.args.m c.pid-pid.result c.in_ok-joined.field-0 here plan c.pid-pid.ensures.number c.in_ok-joined.ensures.entry
    c.in_ok-joined.ensures.answer c.in_ok-reserve_residences.ensures.same)
    c.in-Failed.is c.follow-in-Failed.ensures c.front-in-Failed.ensures
