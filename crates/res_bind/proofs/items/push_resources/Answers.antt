use Rattle.std.proofs.Common.{◌≡◌, ◌+◌, length, drop, ap, arith}
use Rattle.res_model.specs.Placed.{aligned, object_size}
use Rattle.res_bind.proofs.Sizes.{end_above, turn_below, size_step, entries_step}
use Rattle.res_bind.proofs.items.push_resources.Goals as goal

pub overflow_cast-offset : goal.overflow_cast-offset
overflow_cast-offset c =
    let below = turn_below c.args.items.now c.loop-item.item-index c.loop-item.end c.item-item.result (object_size c.args.items.now) c.loop-item-test.true c.item-item.is c.loop-item.invariant.size in
    let small = c.requires in
    omega (arith, below, small, c.aligned-offset.ensures.is)

pub entry_bytes-requires : goal.entry_bytes-requires
entry_bytes-requires c =
    let below = turn_below c.args.items.now c.loop-item.item-index c.loop-item.end c.item-item.result (object_size c.args.items.now) c.loop-item-test.true c.item-item.is c.loop-item.invariant.size in
    let small = c.requires in
    omega (arith, below, small)

pub loop-item-preserved : goal.loop-item-preserved
loop-item-preserved c =
    let items = c.args.items.now in
    let k = c.loop-item.item-index in
    let end = c.loop-item.end in
    let i = c.item-item.result in
    let len = ap length c.as_slice.ensures in
    let at = c.aligned-offset.ensures.is in
    let next : c.aligned-offset.result + length c.as_slice.result.now ≡ aligned end + length i.bytes = omega (arith, len, at) in
    record {
      size = size_step items k end (c.aligned-offset.result + length c.as_slice.result.now) i (object_size items) c.loop-item-test.true c.item-item.is next c.loop-item.invariant.size;
      bytes = entries_step items c.args.object k end c.aligned-offset.result (c.aligned-offset.result + length c.as_slice.result.now) i c.loop-item.out.items c.entry_bytes.result c.extend_from_slice.new.self.items _
          c.loop-item-test.true c.item-item.is at next c.entry_bytes.ensures c.in_ok-extend_from_slice.ensures.items c.loop-item.invariant.bytes;
    }

pub aligned-offset-requires : goal.aligned-offset-requires
aligned-offset-requires c =
    let above = end_above c.loop-item.end (drop c.loop-item.item-index c.args.items.now) in
    let kept = c.loop-item.invariant.size in
    let small = c.requires in
    omega (arith, above, kept, small)

pub overflow_add-end : goal.overflow_add-end
overflow_add-end c =
    let below = turn_below c.args.items.now c.loop-item.item-index c.loop-item.end c.item-item.result (object_size c.args.items.now) c.loop-item-test.true c.item-item.is c.loop-item.invariant.size in
    let len = ap length c.as_slice.ensures in
    let at = c.aligned-offset.ensures.is in
    let small = c.requires in
    omega (arith, below, len, at, small)
