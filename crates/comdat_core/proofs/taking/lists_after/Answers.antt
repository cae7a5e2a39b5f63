use Rattle.std.proofs.Common.{◌≡◌, ◌+◌, ◌++◌, sym, subst, arith, length, take, length-append}
use Rattle.std.proofs.lemmas.List.{length-take-le}
use Rattle.comdat_core.specs.Taking.{AreSeen}
use Rattle.comdat_core.proofs.Lists.{seen_more}
use Rattle.comdat_core.proofs.taking.lists_after.Goals as goal

pub loop-index-preserved : goal.loop-index-preserved
loop-index-preserved c = λ before len are.
    let ms = c.args.modules.now in
    let i = c.loop-index.index in
    let m = c.index-modules-index.result in
    let seen = c.loop-index.invariant before len are in
    let below = c.loop-index-test.true in
    let place = c.in_ok-place.ensures in
    let front = length-take-le i ms (omega arith) in
    let many : length (before ++ take i ms) ≡ c.in_ok-place.place = omega (arith, length-append before (take i ms), front, place, len) in
    let one = c.in_ok-take_out.ensures (before ++ take i ms) many seen.firsts in
    subst (λ outs. AreSeen before (take (i + 1) ms) c.take_out.new.table outs) (sym c.in_ok-push.ensures.items)
    (seen_more before ms i m c.loop-index.table c.take_out.new.table c.loop-index.lists.items c.in_ok-take_out.field-0 below c.index-modules-index.is seen one)
