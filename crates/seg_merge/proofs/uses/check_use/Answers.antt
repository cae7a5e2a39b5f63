use Rattle.std.proofs.Common.{◌≡◌, ◌∙◌, ◌<◌, ap, sym, map, length, get_or, arith, ℕ, List, Some}
use Rattle.std.proofs.lemmas.List.{length-map}
use Rattle.link_model.specs.declared.refusals.LayRefusal.{LayRefusal}
use Rattle.seg_parts.specs.Parts.{shown}
use Rattle.seg_merge.proofs.UseWalk.{walk-begins, walk-ends, walk-goes-on, number-at, own-below, part-at}
use Rattle.seg_merge.proofs.uses.check_use.Goals as goal

pub loop-place-init : goal.loop-place-init
loop-place-init c =
    walk-begins c.args.segments.now (map (λ v. v.items) c.args.groups.now) c.args.count (length c.args.groups.now) c.in_ok-none_yet.field-0.items c.in_ok-none_yet-2.field-0.items
    c.requires.one_each c.in_ok-none_yet.ensures c.in_ok-none_yet-2.ensures

pub groups_at-own-requires : goal.groups_at-own-requires
groups_at-own-requires c =
    let below = number-at c.parts-part-items.result.now c.args.segments.now c.numbers.result.now c.loop-place.place c.parts-part-items.ensures c.numbers.ensures c.loop-place-test.true in
    omega (arith, below, c.requires.one_each)

pub is_mixed-requires-clause-segment : goal.is_mixed-requires-clause-segment
is_mixed-requires-clause-segment c =
    let below = number-at c.parts-part-items.result.now c.args.segments.now c.numbers.result.now c.loop-place.place c.parts-part-items.ensures c.numbers.ensures c.loop-place-test.true in
    omega (arith, below, c.loop-place.invariant.as_many_segments)

pub is_mixed-requires-clause-groups : goal.is_mixed-requires-clause-groups
is_mixed-requires-clause-groups c =
    let below = number-at c.parts-part-items.result.now c.args.segments.now c.numbers.result.now c.loop-place.place c.parts-part-items.ensures c.numbers.ensures c.loop-place-test.true in
    let under : get_or c.numbers.result.now c.loop-place.place 0 < length c.args.groups.now = omega (arith, below, c.requires.one_each) in
    own-below (λ v. v.items) c.args.groups.now (get_or c.numbers.result.now c.loop-place.place 0) c.groups_at-own.result.now c.args.count (length c.loop-place.uses.groups.items)
    c.requires.below under c.groups_at-own.ensures c.loop-place.invariant.as_many_groups

pub add-requires-clause-segment : goal.add-requires-clause-segment
add-requires-clause-segment c =
    let below = number-at c.parts-part-items.result.now c.args.segments.now c.numbers.result.now c.loop-place.place c.parts-part-items.ensures c.numbers.ensures c.loop-place-test.true in
    omega (arith, below, c.loop-place.invariant.as_many_segments)

pub add-requires-clause-groups : goal.add-requires-clause-groups
add-requires-clause-groups c =
    let below = number-at c.parts-part-items.result.now c.args.segments.now c.numbers.result.now c.loop-place.place c.parts-part-items.ensures c.numbers.ensures c.loop-place-test.true in
    let under : get_or c.numbers.result.now c.loop-place.place 0 < length c.args.groups.now = omega (arith, below, c.requires.one_each) in
    own-below (λ v. v.items) c.args.groups.now (get_or c.numbers.result.now c.loop-place.place 0) c.groups_at-own.result.now c.args.count (length c.loop-place.uses.groups.items)
    c.requires.below under c.groups_at-own.ensures c.loop-place.invariant.as_many_groups

pub returns-then-is_mixed : goal.returns-then-is_mixed
returns-then-is_mixed c = λ l one two three.
    let below = number-at c.parts-part-items.result.now c.args.segments.now c.numbers.result.now c.loop-place.place c.parts-part-items.ensures c.numbers.ensures c.loop-place-test.true in
    let under : get_or c.numbers.result.now c.loop-place.place 0 < length c.args.groups.now = omega (arith, below, c.requires.one_each) in
    let parts = c.parts-part-items.result.now in
    let ps = c.args.segments.now in
    let i : ℕ = c.loop-place.place in
    let x = c.part-item.result in
    let len : length parts ≡ length ps = sym (length-map parts shown) ∙ ap length c.parts-part-items.ensures in
    walk-ends ps (map (λ v. v.items) c.args.groups.now) c.args.count i c.loop-place.uses.segments.items c.loop-place.uses.groups.items (shown x) (get_or c.numbers.result.now i 0) c.groups_at-own.result.now
    (omega (arith, len, c.loop-place-test.true)) (part-at parts ps i x c.parts-part-items.ensures c.loop-place-test.true c.part-item.is) (ap (λ (t : List ℕ). get_or t i 0) c.numbers.ensures)
    c.groups_at-own.ensures
    c.loop-place.invariant (sym c.is_mixed.ensures ∙ c.if-is_mixed.true) l (one, two, three)
    ∙ ap (λ (r : LayRefusal). Some r) (sym c.in_ok-mixed.ensures)

pub loop-place-preserved : goal.loop-place-preserved
loop-place-preserved c =
    let below = number-at c.parts-part-items.result.now c.args.segments.now c.numbers.result.now c.loop-place.place c.parts-part-items.ensures c.numbers.ensures c.loop-place-test.true in
    let under : get_or c.numbers.result.now c.loop-place.place 0 < length c.args.groups.now = omega (arith, below, c.requires.one_each) in
    let parts = c.parts-part-items.result.now in
    let ps = c.args.segments.now in
    let i : ℕ = c.loop-place.place in
    let x = c.part-item.result in
    let len : length parts ≡ length ps = sym (length-map parts shown) ∙ ap length c.parts-part-items.ensures in
    walk-goes-on ps (map (λ v. v.items) c.args.groups.now) c.args.count i c.loop-place.uses.segments.items c.loop-place.uses.groups.items (shown x) (get_or c.numbers.result.now i 0) c.groups_at-own.result.now
    (omega (arith, len, c.loop-place-test.true)) (part-at parts ps i x c.parts-part-items.ensures c.loop-place-test.true c.part-item.is) (ap (λ (t : List ℕ). get_or t i 0) c.numbers.ensures)
    c.groups_at-own.ensures
    c.loop-place.invariant c.add.new.self.segments.items c.add.new.self.groups.items (sym c.is_mixed.ensures ∙ c.if-is_mixed.false) c.add.ensures
