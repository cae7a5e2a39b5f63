-- Names of objects are equal where the rules' keys are the same.
use Rattle.std.specs.Prelude.{◌≡◌, ℕ, ◌+◌, ◌<◌, cond, List, [], ◌∷◌, ◌++◌, map, length, take, refl}
use Rattle.std.specs.List.{list_any, position_or_len}
use Rattle.std.specs.Cmp.{IsEquivalence}
use Rattle.std.proofs.Common.{ap, sym, ◌∙◌}
use Rattle.std.proofs.Math.ListN.{get_or}
use Rattle.std.proofs.lemmas.List.{get_or_default}
use Rattle.link_types.proofs.Lists.{map-more}
use Rattle.link_model.specs.Appearance.{firsts}
use Rattle.link_model.specs.declared.keys.ObjectKey.{ObjectKey}
use Rattle.link_model.proofs.KeyTests.{equivalence, object_keys}
use Rattle.seg_parts.specs.LogicalSegments.{places}
use Rattle.seg_parts.proofs.Tables.{keys-push, place-shown, places-push}
use Rattle.link_model.specs.Order.{same_object}
use Rattle.seg_parts.specs.declared.objects.ObjectName.{ObjectName}
use Rattle.seg_parts.specs.declared.objects.ObjectName.TheVariants as names
use Rattle.seg_parts.specs.contracts.objects.ObjectNamePartialEq.TheImpl.{eq-value}
use Rattle.seg_parts.specs.Objects.{object_shown}
use Rattle.seg_parts.proofs.Names.{names-shown}

pub objects-shown : (x y : ObjectName) → eq-value.it x y ≡ same_object (object_shown x) (object_shown y)
objects-shown (names.Group a) (names.Group a2) = refl
objects-shown (names.Group a) (names.Wide f2) = refl
objects-shown (names.Group a) (names.Narrow s2) = refl
objects-shown (names.Wide f) (names.Group a2) = refl
objects-shown (names.Wide f) (names.Wide f2) = refl
objects-shown (names.Wide f) (names.Narrow s2) = refl
objects-shown (names.Narrow s) (names.Group a2) = refl
objects-shown (names.Narrow s) (names.Wide f2) = refl
objects-shown (names.Narrow s) (names.Narrow s2) = names-shown s s2

pub objects_equal : IsEquivalence same_object
objects_equal = equivalence object_keys (λ (k : ObjectKey). k)

-- One more object.
pub object-more : (objects names new : List ObjectName) (i : ℕ) (d : ObjectName) (found after : List ℕ) (n : ℕ) → i < length objects →
    (map object_shown names ≡ firsts same_object (map object_shown (take i objects))) × (found ≡ places same_object (map object_shown (take i objects))) →
    new ≡ cond (list_any (eq-value.it (get_or objects i d)) names) names (names ++ get_or objects i d ∷ []) → n ≡ position_or_len (eq-value.it (get_or objects i d)) names → after ≡ found ++ n ∷ [] →
    (map object_shown new ≡ firsts same_object (map object_shown (take (i + 1) objects))) × (after ≡ places same_object (map object_shown (take (i + 1) objects)))
object-more objects names new i d found after n below old grown at more =
    let x : ObjectName = get_or objects i d in
    let ks : List ObjectKey = map object_shown (take i objects) in
    let one : map object_shown (take (i + 1) objects) ≡ ks ++ object_shown x ∷ [] = map-more object_shown objects i x below (get_or_default objects i d x below) in
    let place : n ≡ position_or_len (same_object (object_shown x)) (firsts same_object ks) =
    at ∙ place-shown eq-value.it same_object object_shown objects-shown x names ∙ ap (position_or_len (same_object (object_shown x))) old.0 in (
      ap (map object_shown) grown ∙ keys-push eq-value.it same_object object_shown objects-shown objects_equal names ks x old.0 ∙ ap (firsts same_object) (sym one),
      more ∙ ap (λ (t : List ℕ). t ++ n ∷ []) old.1 ∙ ap (λ (k : ℕ). places same_object ks ++ k ∷ []) place
          ∙ sym (places-push same_object objects_equal ks (object_shown x)) ∙ ap (places same_object) (sym one),
    )
