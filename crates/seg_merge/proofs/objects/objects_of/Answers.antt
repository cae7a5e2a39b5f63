use Rattle.std.proofs.Common.{◌≡◌, ◌∙◌, ap, sym, map}
use Rattle.std.proofs.lemmas.Simd.{map-map}
use Rattle.link_model.specs.Order.{same_object}
use Rattle.seg_parts.specs.LogicalSegments.{places}
use Rattle.seg_parts.specs.Objects.{object_shown}
use Rattle.seg_parts.proofs.Lists.{ok_by}
use Rattle.seg_merge.specs.Laid.{keys_of}
use Rattle.seg_merge.specs.Ordered.{Ordered, ordered_shown}
use Rattle.seg_merge.proofs.objects.objects_of.Goals as goal

pub returns : goal.returns
returns c =
    let keys : map object_shown c.as_slice.result.now ≡ keys_of (map ordered_shown c.args.ordered.now) =
    ap (map object_shown) c.as_slice.ensures.value ∙ c.in_ok-names.ensures ∙ sym (map-map (λ (o : Ordered). o.key) ordered_shown c.args.ordered.now) in
    ok_by c.object_places.result (λ found e. e ∙ ap (places same_object) keys) c.object_places.ensures
