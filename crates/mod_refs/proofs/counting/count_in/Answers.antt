-- One module more: its count was that of the beginning, since no module before it is the same.
use Rattle.std.proofs.Common.{◌≡◌, ◌+◌, ◌<◌, get_or, length, take, ap, ◌∙◌, arith, add-zero, length-set}
use Rattle.load_model.specs.State.{is_among}
use Rattle.mod_refs.specs.Counts.{one_if}
use Rattle.mod_refs.proofs.Counts.{not_before, counts_more, attached_more}
use Rattle.mod_refs.proofs.counting.count_in.Goals as goal

pub count_one-requires-clause-small : goal.count_one-requires-clause-small
count_one-requires-clause-small c =
    let within : get_or c.args.order.now c.loop-k.k-index 0 < length c.args.reached.now.items = c.requires.within c.loop-k.k-index 0 c.loop-k-test.true in
    let now = c.loop-k.invariant.reached.counts _ within in
    let none : one_if (is_among (take c.loop-k.k-index c.args.order.now) (get_or c.args.order.now c.loop-k.k-index 0)) ≡ 0 =
    ap one_if (not_before c.args.order.now c.loop-k.k-index c.requires.once c.loop-k-test.true)
    in
    let small = c.requires.small c.loop-k.k-index 0 c.loop-k-test.true in
    omega (arith, now, none, small)

pub loop-k-preserved : goal.loop-k-preserved
loop-k-preserved c =
    let within : get_or c.args.order.now c.loop-k.k-index 0 < length c.args.reached.now.items = c.requires.within c.loop-k.k-index 0 c.loop-k-test.true in
    let here : get_or c.args.order.now c.loop-k.k-index 0 < length c.loop-k.reached.items = omega (arith, within, c.loop-k.invariant.reached.each) in
    let fresh : get_or c.loop-k.reached.items (get_or c.args.order.now c.loop-k.k-index 0) 0 ≡ get_or c.args.reached.now.items (get_or c.args.order.now c.loop-k.k-index 0) 0 =
    c.loop-k.invariant.reached.counts _ within
    ∙ ap (λ b. get_or c.args.reached.now.items (get_or c.args.order.now c.loop-k.k-index 0) 0 + one_if b) (not_before c.args.order.now c.loop-k.k-index c.requires.once c.loop-k-test.true)
    ∙ add-zero _
    in
    record {
      reached = record {
        each = ap length c.count_one.ensures.reached ∙ length-set c.loop-k.reached.items _ _ ∙ c.loop-k.invariant.reached.each;
        counts = λ k below. counts_more c.args.reached.now.items c.loop-k.reached.items c.count_one.new.reached.items c.args.order.now c.loop-k.k-index k c.requires.once c.loop-k-test.true here
            c.count_one.ensures.reached (c.loop-k.invariant.reached.counts k below);
      };
      attached = attached_more c.args.reached.now.items c.loop-k.reached.items c.args.order.now c.args.attached.now.items _ _ c.loop-k.k-index c.loop-k-test.true fresh
          c.loop-k.invariant.attached c.count_one.ensures.attached;
      kept = c.count_one.ensures.kept;
    }
