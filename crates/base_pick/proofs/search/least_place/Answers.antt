use Rattle.std.proofs.Common.{◌≡◌, arith, subst, sym, length}
use Rattle.lx_types.specs.Addresses.{room}
use Rattle.base_pick.proofs.Gaps.{IsAfter, IsAfter-more, least-found, least-none}
use Rattle.base_pick.proofs.search.least_place.Goals as goal

pub loop-range-preserved : goal.loop-range-preserved
loop-range-preserved c =
    let room_is : room c.args.size ≡ c.room_of-room.result = sym c.room_of-room.ensures in
    IsAfter-more c.args.arena c.args.ranges.now c.args.size c.loop-range.range-index c.loop-range.base c.base_beside-base.result (record { from = 0; to = 0 })
    c.loop-range.invariant c.requires.rising c.loop-range-test.true c.base_beside-base.ensures.few
    (λ h. c.base_beside-base.ensures.met (omega (arith, h, room_is)))
    (λ h. c.base_beside-base.ensures.apart (omega (arith, h, room_is)))

pub returns-then-base-room-clause-least : goal.returns-then-base-room-clause-least
returns-then-base-room-clause-least c =
    let at_end : c.loop-range.range-index ≡ length c.args.ranges.now = omega (arith, c.loop-range-test.false, c.loop-range.auto.range-index-end) in
    sym (least-found c.args.arena c.args.ranges.now c.args.size c.loop-range.base c.requires.aligned
    (subst (λ n. IsAfter c.args.arena c.args.ranges.now c.args.size n c.loop-range.base) at_end c.loop-range.invariant)
    (omega (arith, c.if-base-room.true, c.from.ensures, c.room_of-room.ensures)))

pub returns-else-base-room-clause-least : goal.returns-else-base-room-clause-least
returns-else-base-room-clause-least c =
    let at_end : c.loop-range.range-index ≡ length c.args.ranges.now = omega (arith, c.loop-range-test.false, c.loop-range.auto.range-index-end) in
    sym (least-none c.args.arena c.args.ranges.now c.args.size c.loop-range.base c.requires.aligned
    (subst (λ n. IsAfter c.args.arena c.args.ranges.now c.args.size n c.loop-range.base) at_end c.loop-range.invariant)
    (omega (arith, c.if-base-room.false, c.from.ensures, c.room_of-room.ensures)))
