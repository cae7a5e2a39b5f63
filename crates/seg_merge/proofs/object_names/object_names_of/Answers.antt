use Rattle.std.proofs.Common.{◌∙◌, ◌++◌, ◌∷◌, [], ap, sym, map, List, ℕ}
use Rattle.std.specs.List.{range_with_len}
use Rattle.std.proofs.lemmas.List.{map-append}
use Rattle.link_model.specs.declared.keys.ObjectKey.{ObjectKey}
use Rattle.seg_parts.specs.Objects.{object_shown}
use Rattle.seg_parts.specs.Parts.{shown}
use Rattle.seg_parts.proofs.Ranges.{range-more}
use Rattle.seg_merge.specs.Ordered.{key_at}
use Rattle.seg_merge.proofs.object_names.object_names_of.Goals as goal

pub loop-number-preserved : goal.loop-number-preserved
loop-number-preserved c =
    let f : ℕ → ObjectKey = key_at (map shown c.args.heads.now) c.args.flags.now c.args.names.now (map (λ v. v.items) c.args.groups.now) in
    ap (map object_shown) c.in_ok-push.ensures.items
    ∙ map-append object_shown c.loop-number.objects.items (c.name_at.result ∷ [])
    ∙ ap (λ (t : List ObjectKey). t ++ object_shown c.name_at.result ∷ []) c.loop-number.invariant
    ∙ ap (λ (k : ObjectKey). map f (range_with_len 0 c.loop-number.number) ++ k ∷ []) c.name_at.ensures
    ∙ sym (range-more f c.loop-number.number)
