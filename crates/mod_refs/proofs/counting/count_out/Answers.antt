-- One module less: its count was that of the beginning, since no module before it is the same.
use Rattle.std.proofs.Common.{◌≡◌, ◌<◌, get_or, length, take, sym, ap, ◌∙◌, arith, length-set}
use Rattle.load_model.specs.State.{is_among}
use Rattle.mod_refs.specs.Counts.{one_if}
use Rattle.mod_refs.proofs.Counts.{not_before, counts_less, counted_within}
use Rattle.mod_refs.proofs.counting.count_out.Goals as goal

pub take_one-requires : goal.take_one-requires
take_one-requires c =
    let some = c.requires.counted c.loop-k.k-index 0 c.loop-k-test.true in
    let within = counted_within c.args.reached.now.items (get_or c.args.order.now c.loop-k.k-index 0) some in
    let now = c.loop-k.invariant.counts (get_or c.args.order.now c.loop-k.k-index 0) (omega (arith, within, c.loop-k.invariant.each)) in
    let none : one_if (is_among (take c.loop-k.k-index c.args.order.now) (get_or c.args.order.now c.loop-k.k-index 0)) ≡ 0 =
    ap one_if (not_before c.args.order.now c.loop-k.k-index c.requires.once c.loop-k-test.true)
    in
    omega (arith, now, none, some)

pub loop-k-preserved : goal.loop-k-preserved
loop-k-preserved c =
    let some = c.requires.counted c.loop-k.k-index 0 c.loop-k-test.true in
    let within = counted_within c.args.reached.now.items (get_or c.args.order.now c.loop-k.k-index 0) some in
    let here : get_or c.args.order.now c.loop-k.k-index 0 < length c.loop-k.reached.items = omega (arith, within, c.loop-k.invariant.each) in
    let now = c.loop-k.invariant.counts (get_or c.args.order.now c.loop-k.k-index 0) here in
    let none : one_if (is_among (take c.loop-k.k-index c.args.order.now) (get_or c.args.order.now c.loop-k.k-index 0)) ≡ 0 =
    ap one_if (not_before c.args.order.now c.loop-k.k-index c.requires.once c.loop-k-test.true)
    in
    let long = ap length c.take_one.ensures ∙ length-set c.loop-k.reached.items _ _ in
    record {
      each = c.loop-k.invariant.each ∙ sym long;
      counts = λ k below. counts_less c.args.reached.now.items c.loop-k.reached.items c.take_one.new.counts.items c.args.order.now c.loop-k.k-index k c.requires.once c.loop-k-test.true here
          c.take_one.ensures (omega (arith, now, none, some)) (c.loop-k.invariant.counts k (omega (arith, long, below)));
    }
