use Rattle.std.proofs.Common.{◌≡◌, ◌∙◌, ◌+◌, ◌∷◌, ◌++◌, [], ap, sym, take, arith, ℕ}
use Rattle.std.proofs.Math.ListN.{get_or}
use Rattle.link_model.specs.declared.symbols.LaidObject.{LaidObject}
use Rattle.std.proofs.Common.{List}
use Rattle.std.proofs.lemmas.List.{get_or_default}
use Rattle.link_model.specs.Layout.{placed_from}
use Rattle.seg_parts.specs.Objects.{base_after}
use Rattle.seg_parts.proofs.Bases.{placed-more, base-more, sum-taken}
use Rattle.seg_parts.proofs.objects.laid_objects.Goals as goal

pub loop-pair-preserved : goal.loop-pair-preserved
loop-pair-preserved c =
    let qs = c.args.sizes.now in
    let i : ℕ = c.loop-pair.pair-index in
    let q : ℕ × ℕ = get_or qs i (0, 0) in
    let is : q ≡ get_or qs i q = get_or_default qs i (0, 0) q c.loop-pair-test.true in
    let sums = sum-taken qs i q c.loop-pair-test.true is in
    let of : ℕ → LaidObject = λ base. record { size = q.0; base = base; flags = q.1 } in (
      c.in_ok-push.ensures ∙ ap (λ (t : List LaidObject). t ++ of c.loop-pair.base ∷ []) c.loop-pair.invariant.0
          ∙ ap (λ (b : ℕ). placed_from c.args.first (take i qs) ++ of b ∷ []) c.loop-pair.invariant.1
          ∙ sym (placed-more c.args.first qs i q c.loop-pair-test.true is),
      ap (λ (b : ℕ). b + c.room-base.result) c.loop-pair.invariant.1
          ∙ ap (λ (r : ℕ). base_after c.args.first (take i qs) + r) c.room-base.ensures.value
          ∙ sym (base-more c.args.first qs i q c.loop-pair-test.true is),
      omega (arith, c.loop-pair.invariant.2, c.room-base.ensures.most, sums.0),
    )
