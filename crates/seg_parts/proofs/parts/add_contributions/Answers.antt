use Rattle.std.proofs.Common.{◌≡◌, ◌∙◌, ◌+◌, ◌∷◌, [], ap, map, not, ℕ, arith}
use Rattle.std.proofs.lemmas.List.{map-append}
use Rattle.link_model.specs.Parts as rules
use Rattle.obj_types.specs.declared.object.Seg.{Seg}
use Rattle.seg_parts.specs.Parts.{shown}
use Rattle.seg_parts.proofs.Lists.{picked-in, picked-out}
use Rattle.seg_parts.proofs.parts.add_contributions.Goals as goal
use Rattle.seg_parts.proofs.parts.add_contributions.Goals.{then-not-seg+in_ok-count+in_ok-push, else-not-seg}

pub loop-place-preserved : goal.loop-place-preserved
loop-place-preserved c =
    let f : ℕ × Seg → rules.Part = λ q. rules.of_seg c.args.module q.0 q.1 in
    let x = c.index-segs-place.result in
    let i : ℕ = c.loop-place.place in
    elim c.if-not-seg.branch [
      | then-not-seg+in_ok-count+in_ok-push w ↦
          let count : w.in_ok-count.field-0 ≡ 1 + i = omega (arith, w.in_ok-count.ensures) in
          picked-in f (λ q. not q.1.debug) 1 (map shown c.args.found.now.items) (map shown c.loop-place.found.items) (map shown c.if-not-seg.found.items)
          c.args.segs.now i x (shown w.part_of.result) c.loop-place-test.true c.index-segs-place.is (ap not w.if-not-seg.true)
          (w.part_of.ensures ∙ ap (λ n. rules.of_seg c.args.module n x) count) c.loop-place.invariant
          (ap (λ v. map shown v.items) w.found-is ∙ ap (map shown) w.in_ok-push.ensures.items ∙ map-append shown c.loop-place.found.items (w.part_of.result ∷ []))
      | else-not-seg w ↦
          ap (λ v. map shown v.items) w.found-is
          ∙ picked-out f (λ q. not q.1.debug) 1 (map shown c.args.found.now.items) (map shown c.loop-place.found.items)
          c.args.segs.now i x c.loop-place-test.true c.index-segs-place.is (ap not w.if-not-seg.false) c.loop-place.invariant
    ]
