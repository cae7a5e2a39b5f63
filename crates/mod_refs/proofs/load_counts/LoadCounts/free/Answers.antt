-- A load less counts the modules of its order once less.
use Rattle.std.proofs.Common.{◌≡◌, ◌<◌, List, ℕ, length, get_or, filter, sym, ap, ◌∙◌, subst, length-set}
use Rattle.std.specs.Prelude.{nat_lt, All}
use Rattle.load_model.specs.Leaving.{freeing, keeping}
use Rattle.load_model.specs.ProcessCounts.{ProcessCounts, AreCountsOf}
use Rattle.mod_refs.proofs.Counts.{counted_within, attached_left}
use Rattle.mod_refs.proofs.CountLaws.{free_row}
use Rattle.mod_refs.proofs.load_counts.LoadCounts.free.Goals as goal

-- what is kept of the modules that are attached
kept_by : (counts reached attached new : List ℕ) → new ≡ filter (λ k. nat_lt 0 (get_or counts k 0)) attached → counts ≡ reached → new ≡ filter (λ k. nat_lt 0 (get_or reached k 0)) attached
kept_by counts reached attached new is same = is ∙ ap (λ xs. filter (λ k. nat_lt 0 (get_or xs k 0)) attached) same

pub invariant_of-self : goal.invariant_of-self
invariant_of-self c =
    let loads = ap length c.take_one.ensures ∙ length-set c.self.inside.loads.items c.args.m _ in
    let kept = kept_by c.as_slice.result.now c.count_out.new.reached.items c.self.inside.attached.items c.keep_counted.new.attached.items c.keep_counted.ensures c.as_slice.ensures.value in
    record {
      each = loads ∙ c.self.invariant.each ∙ c.count_out.ensures.each;
      attached = attached_left c.self.inside.reached.items c.count_out.new.reached.items c.self.inside.attached.items c.keep_counted.new.attached.items c.self.invariant.attached kept;
    }

pub returns : goal.returns
returns c = λ lib p e is order_is.
    let view = c.self.view_is in
    let was = subst (AreCountsOf lib p) (sym view) is in
    let held = subst (λ (counts : ProcessCounts). 0 < get_or counts.loads c.args.m 0) (sym view) c.requires.held in
    let there = counted_within c.self.inside.loads.items c.args.m held in
    let kept = kept_by c.as_slice.result.now c.count_out.new.reached.items c.self.inside.attached.items c.keep_counted.new.attached.items c.keep_counted.ensures c.as_slice.ensures.value in
    let within : All (λ k. k < length c.self.inside.reached.items) c.self.inside.attached.items =
    λ i d h. counted_within c.self.inside.reached.items (get_or c.self.inside.attached.items i d) (c.self.invariant.attached.counted i d h)
    in
    let now = free_row lib p e _ c.args.order.now c.count_out.new.reached.items c.keep_counted.new.attached.items c.args.m was order_is held there c.count_out.ensures within kept in
    let After : List ℕ → Type 0 = λ loads. AreCountsOf lib (keeping lib e (freeing c.args.m p)) (record { started = c.self.inside.started; loads = loads; reached = c.count_out.new.reached.items; attached = c.keep_counted.new.attached.items }) in
    subst After (sym c.take_one.ensures) now
