-- The number of an object is the place of its key.
use Rattle.std.specs.Prelude.{◌≡◌, ℕ, ◌+◌, Bool, true, ◌||◌, List, [], ◌∷◌, Option, map, refl}
use Rattle.std.specs.List.{list_any, position_or_len}
use Rattle.std.specs.Option.{option_map_or}
use Rattle.std.specs.Cmp.{IsEquivalence}
use Rattle.std.proofs.Common.{ap, ◌∙◌}
use Rattle.std.proofs.lemmas.Bool.{or_right}
use Rattle.link_model.specs.Appearance.{firsts, firsts_by, place_by}
use Rattle.link_model.specs.declared.keys.ObjectKey.{ObjectKey}
use Rattle.link_model.specs.Order.{ordered, object_key, same_object}
use Rattle.link_model.proofs.KeyTests.{equivalence, object_keys}
use Rattle.link_model.proofs.Members.{position_is}
use Rattle.link_model.proofs.Tables.{any-firsts}
use Rattle.link_types.proofs.Lists.{firsts-keys}
use Rattle.seg_parts.proofs.Tables.{any-shown, place-shown}
use Rattle.seg_merge.specs.ObjectNumbers.{ObjectNumbers}

numbered : {K X : Type 0} (same : K → K → Bool) (key : X → K) → IsEquivalence same → (all xs : List X) → ((k : K) → list_any (same k) (map key xs) ≡ true → list_any (same k) (map key all) ≡ true) →
    map (λ s. option_map_or (λ (k : ℕ). k + 1) (place_by same key (key s) (firsts_by same key all)) 0) xs ≡ map (λ (n : ℕ). n + 1) (map (λ k. position_or_len (same k) (firsts same (map key all))) (map key xs))
numbered same key eqv all [] within = refl
numbered {K} {X} same key eqv all (s ∷ xs) within =
    let heads : List X = firsts_by same key all in
    let keys : map key heads ≡ firsts same (map key all) = firsts-keys key same all in
    let there : list_any (λ x. same (key s) (key x)) heads ≡ true =
    any-shown (λ a b. same (key a) (key b)) same key (λ a b. refl) s heads ∙ ap (list_any (same (key s))) keys ∙ any-firsts eqv (key s) (map key all)
    ∙ within (key s) (ap (λ (b : Bool). b || list_any (same (key s)) (map key xs)) (eqv.refl (key s))) in
    let at : position_or_len (λ x. same (key s) (key x)) heads ≡ position_or_len (same (key s)) (firsts same (map key all)) =
    place-shown (λ a b. same (key a) (key b)) same key (λ a b. refl) s heads ∙ ap (position_or_len (same (key s))) keys in
    ap (λ (o : Option ℕ). option_map_or (λ (k : ℕ). k + 1) o 0 ∷ map (λ t. option_map_or (λ (k : ℕ). k + 1) (place_by same key (key t) heads) 0) xs) (position_is (λ x. same (key s) (key x)) heads there)
    ∙ ap (λ (n : ℕ). (n + 1) ∷ map (λ t. option_map_or (λ (k : ℕ). k + 1) (place_by same key (key t) heads) 0) xs) at
    ∙ ap (λ (t : List ℕ). (position_or_len (same (key s)) (firsts same (map key all)) + 1) ∷ t) (numbered same key eqv all xs (λ k e. within k (or_right (same k (key s)) (list_any (same k) (map key xs)) e)))

pub object-numbers : ObjectNumbers
object-numbers l = numbered same_object (object_key l) (equivalence object_keys (λ (k : ObjectKey). k)) (ordered l) (ordered l) (λ k e. e)
