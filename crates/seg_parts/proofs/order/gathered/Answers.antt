use Rattle.std.proofs.Common.{◌≡◌, ◌<◌, take, arith, ℕ, length}
use Rattle.std.proofs.Math.ListN.{get_or}
use Rattle.std.proofs.lemmas.List.{get_or_default}
use Rattle.seg_parts.proofs.Ranges.{lists-more, lists-length}
use Rattle.seg_parts.proofs.order.gathered.Goals as goal

pub index_mut-requires : goal.index_mut-requires
index_mut-requires c =
    let len : length c.loop-place.lists.items ≡ c.args.count = lists-length (λ v. v.items) c.loop-place.lists.items (take c.loop-place.place c.args.numbers.now) c.args.count c.loop-place.invariant in
    let below : get_or c.args.numbers.now c.loop-place.place 0 < c.args.count = c.requires c.loop-place.place 0 c.loop-place-test.true in
    omega (arith, len, below, c.loop-place.lists.ok)

pub loop-place-preserved : goal.loop-place-preserved
loop-place-preserved c =
    let n : ℕ = get_or c.args.numbers.now c.loop-place.place 0 in
    lists-more (λ v. v.items) c.loop-place.lists.items c.args.numbers.now c.args.count c.loop-place.place n c.index_mut.result.now c.push.new.self
    c.loop-place-test.true (get_or_default c.args.numbers.now c.loop-place.place 0 n c.loop-place-test.true) (c.requires c.loop-place.place 0 c.loop-place-test.true) c.loop-place.invariant c.index_mut.ensures.value c.in_ok-push.ensures.items
