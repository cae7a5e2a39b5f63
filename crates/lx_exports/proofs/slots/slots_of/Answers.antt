use Rattle.std.proofs.Common.{◌≡◌, ◌∙◌, ◌+◌, ◌<◌, ◌∷◌, true, false, ap, sym, subst, arith, inl, inr, length, ℕ, List}
use Rattle.std.specs.Prelude.{slice_set, replicate}
use Rattle.lx_exports.specs.declared.slots.Slot.{Slot}
use Rattle.lx_exports.specs.declared.slots.Slot.TheVariants.{Empty}
use Rattle.lx_exports.specs.declared.exports.OutEntry.{OutEntry}
use Rattle.lx_exports.proofs.SlotsFilled.{Filled, begun, in_room, next_known, looked_at, put, stays, done, no_left, no_numbers}
use Rattle.lx_exports.proofs.slots.slots_of.Goals as goal

moved : (xs : List OutEntry) (ns : List ℕ) (slots : List Slot) (left : List OutEntry) (ordinals : List ℕ) → left ≡ xs → ordinals ≡ ns → Filled xs ns xs ns slots → Filled xs ns left ordinals slots
moved xs ns slots left ordinals a b known = subst (λ (l : List OutEntry). Filled xs ns l ordinals slots) (sym a) (subst (λ (o : List ℕ). Filled xs ns xs o slots) (sym b) known)

pub loop-export-init : goal.loop-export-init
loop-export-init c =
    let zipped = c.into_iter-export-iterator.ensures.into_iter_gives in
    let slots = c.in_ok-slots.slots.items in
    moved c.args.exports.now c.args.ordinals.now slots c.into_iter-export-iterator.result.a.rest.now c.into_iter-export-iterator.result.b.rest.now
    (ap (λ z. z.a.rest.now) zipped ∙ ap (λ i. i.rest.now) c.zip-export-items.ensures.first ∙ c.iter.ensures.rest)
    (ap (λ z. z.b.rest.now) zipped ∙ c.zip-export-items.ensures.second.0)
    (begun c.args.exports.now c.args.ordinals.now slots c.requires.fit
    (c.in_ok-slots.ensures.items_if_clones_equal (λ y is. is) ∙ ap (λ (n : ℕ). replicate (n + 1) Empty) (c.from.ensures ∙ c.greatest.ensures)))

pub index-requires : goal.index-requires
index-requires c =
    let xs = c.args.exports.now in
    let ns = c.args.ordinals.now in
    let slots = c.loop-export.slots.items in
    let x = c.in-Some.export.now in
    let n = c.in-Some.field-0-1.now in
    let left = c.loop-export.export-iterator in
    let rest = c.next.new.self.a.rest.now in
    let others = c.next.new.self.b.rest.now in
    let known = next_known xs ns slots x n left.a.rest.now rest left.b.rest.now others c.in-Some.ensures.steps.0 c.in-Some.ensures.steps.1 c.loop-export.invariant in
    omega (arith, in_room xs ns slots x n c.from-at.result rest others c.from-at.ensures known, c.loop-export.slots.ok.0)

pub index_mut-requires : goal.index_mut-requires
index_mut-requires c =
    let xs = c.args.exports.now in
    let ns = c.args.ordinals.now in
    let slots = c.loop-export.slots.items in
    let x = c.in-Some.export.now in
    let n = c.in-Some.field-0-1.now in
    let left = c.loop-export.export-iterator in
    let rest = c.next.new.self.a.rest.now in
    let others = c.next.new.self.b.rest.now in
    let known = next_known xs ns slots x n left.a.rest.now rest left.b.rest.now others c.in-Some.ensures.steps.0 c.in-Some.ensures.steps.1 c.loop-export.invariant in
    omega (arith, in_room xs ns slots x n c.from-at.result rest others c.from-at.ensures known, c.loop-export.slots.ok.0)

pub loop-export-preserved-then-is_empty : goal.loop-export-preserved-then-is_empty
loop-export-preserved-then-is_empty c =
    let xs = c.args.exports.now in
    let ns = c.args.ordinals.now in
    let slots = c.loop-export.slots.items in
    let x = c.in-Some.export.now in
    let n = c.in-Some.field-0-1.now in
    let left = c.loop-export.export-iterator in
    let rest = c.next.new.self.a.rest.now in
    let others = c.next.new.self.b.rest.now in
    let known = next_known xs ns slots x n left.a.rest.now rest left.b.rest.now others c.in-Some.ensures.steps.0 c.in-Some.ensures.steps.1 c.loop-export.invariant in
    let there = in_room xs ns slots x n n rest others (omega arith) known in
    let free = looked_at slots c.from-at.result n c.index.result.now true c.from-at.ensures there c.index.ensures (sym c.is_empty.ensures ∙ c.if-is_empty.true) in
    subst (λ (i : ℕ). Filled xs ns rest others (slice_set slots i c.slot_of.result)) (sym c.from-at.ensures)
    (put xs ns x n rest others slots c.slot_of.result known free (c.slot_of.ensures n))

pub loop-export-preserved : goal.loop-export-preserved
loop-export-preserved c =
    let xs = c.args.exports.now in
    let ns = c.args.ordinals.now in
    let slots = c.loop-export.slots.items in
    let x = c.in-Some.export.now in
    let n = c.in-Some.field-0-1.now in
    let left = c.loop-export.export-iterator in
    let rest = c.next.new.self.a.rest.now in
    let others = c.next.new.self.b.rest.now in
    let known = next_known xs ns slots x n left.a.rest.now rest left.b.rest.now others c.in-Some.ensures.steps.0 c.in-Some.ensures.steps.1 c.loop-export.invariant in
    let there = in_room xs ns slots x n n rest others (omega arith) known in
    let taken = looked_at slots c.from-at.result n c.index.result.now false c.from-at.ensures there c.index.ensures (sym c.is_empty.ensures ∙ c.if-is_empty.false) in
    stays xs ns x n rest others slots known taken

pub returns : goal.returns
returns c =
    let left = c.loop-export.export-iterator in
    elim c.in-None.ensures.steps [
      | inl end ↦ done c.args.exports.now c.args.ordinals.now left.a.rest.now left.b.rest.now c.loop-export.slots.items c.loop-export.invariant (no_left left.a.rest.now left.b.rest.now end.1.0)
      | inr end ↦ done c.args.exports.now c.args.ordinals.now left.a.rest.now left.b.rest.now c.loop-export.slots.items c.loop-export.invariant (no_numbers left.a.rest.now left.b.rest.now end.1.0)
    ]
