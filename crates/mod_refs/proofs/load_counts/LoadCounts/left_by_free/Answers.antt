-- What has no count any more leaves.
use Rattle.std.proofs.Common.{◌≡◌, ◌<◌, ◌==◌, length, get_or, filter, reverse, sym, ap, ◌∙◌, subst, arith}
use Rattle.std.specs.Prelude.{All}
use Rattle.load_model.specs.ProcessCounts.{ProcessCounts, AreCountsOf}
use Rattle.mod_refs.specs.Counts.{AreCounted}
use Rattle.mod_refs.proofs.Counts.{counted_within}
use Rattle.mod_refs.proofs.CountLaws.{freed_left}
use Rattle.mod_refs.proofs.load_counts.LoadCounts.left_by_free.Goals as goal

pub uncounted-requires : goal.uncounted-requires
uncounted-requires c = λ i d h.
    let same : get_or c.as_slice-2.result.now i d ≡ get_or c.self.inside.attached.items i d = ap (λ xs. get_or xs i d) c.as_slice-2.ensures.value in
    let below : i < length c.self.inside.attached.items = subst (λ xs. i < length xs) c.as_slice-2.ensures.value h in
    let within = counted_within c.self.inside.reached.items (get_or c.self.inside.attached.items i d) (c.self.invariant.attached.counted i d below) in
    let old : length c.copied-reached.result.items ≡ length c.self.inside.reached.items = ap length (c.copied-reached.ensures ∙ c.as_slice.ensures.value) in
    let new : length c.as_slice-3.result.now ≡ length c.count_out.new.reached.items = ap length c.as_slice-3.ensures.value in
    omega (arith, same, within, old, new, c.count_out.ensures.each)

pub returns : goal.returns
returns c = λ lib p is order_is.
    let view = c.self.view_is in
    let was = subst (AreCountsOf lib p) (sym view) is in
    let held = subst (λ (counts : ProcessCounts). 0 < get_or counts.loads c.args.m 0) (sym view) c.requires.held in
    let there = counted_within c.self.inside.loads.items c.args.m held in
    let within : All (λ k. k < length c.self.inside.reached.items) c.self.inside.attached.items =
    λ i d h. counted_within c.self.inside.reached.items (get_or c.self.inside.attached.items i d) (c.self.invariant.attached.counted i d h)
    in
    let counted = subst (AreCounted c.args.order.now c.count_out.new.reached.items) (c.copied-reached.ensures ∙ c.as_slice.ensures.value) c.count_out.ensures in
    c.reverse.ensures.items
    ∙ ap reverse (c.in_ok-left.ensures ∙ ap (λ xs. filter (λ k. get_or c.as_slice-3.result.now k 0 == 0) xs) c.as_slice-2.ensures.value
    ∙ ap (λ xs. filter (λ k. get_or xs k 0 == 0) c.self.inside.attached.items) c.as_slice-3.ensures.value)
    ∙ freed_left lib p _ c.args.order.now c.count_out.new.reached.items c.args.m was order_is held there counted within
