-- The logical segments of a link with their objects, their parts and their least lengths.
use Rattle.std.specs.Prelude.{◌≡◌, ℕ, suc, ◌+◌, ◌<◌, ◌==◌, Bool, cond, List, [], ◌∷◌, Option, Some, None, map, length, get_or, slice_get, if◌then◌else◌, refl}
use Rattle.std.specs.List.{enumerate_from, position_or_len}
use Rattle.std.specs.Option.{option_map}
use Rattle.std.proofs.Common.{ap, sym, subst, ◌∙◌, arith}
use Rattle.std.proofs.lemmas.List.{length-map, get_or-map}
use Rattle.std.proofs.lemmas.Simd.{map-map}
use Rattle.link_model.specs.declared.keys.ObjectKey.{ObjectKey}
use Rattle.link_model.specs.Link.{Link}
use Rattle.link_model.specs.Parts.{Part, joins}
use Rattle.link_model.specs.Order.{ordered, object_key, same_object, object_number, own_stack, parts_of}
use Rattle.link_model.specs.Rows.{has_stack, stack_segment, least_len}
use Rattle.link_model.specs.Words.{option_any}
use Rattle.link_model.proofs.Members.{In, in_map, from_map, found_as}
use Rattle.seg_parts.specs.LogicalSegments.{heads_of, places}
use Rattle.seg_parts.specs.Rows.{Unplaced}
use Rattle.seg_parts.specs.Steps.{unplaced_in}
use Rattle.seg_parts.proofs.Lists.{find_mapped}
use Rattle.seg_merge.specs.Ordered.{Ordered, all_parts, ordered_in}
use Rattle.seg_merge.specs.Laid as laid
use Rattle.seg_merge.proofs.NumbersOfObjects.{object-numbers}
use Rattle.seg_merge.proofs.OrderedSegments.{number-is, own-number}

abbrev number : Link → Part → ℕ
number l s = position_or_len (joins s) (heads_of (all_parts l))

-- Each of these stands at some place.
pub placed-in : {X : Type 0} (xs : List X) (order : List ℕ) (items : List X) (x : X) → map (slice_get xs) order ≡ map (λ y. Some y) items → In x items → (k : ℕ) × (slice_get xs k ≡ Some x)
placed-in {X} xs order items x e i =
    let m = from_map (slice_get xs) order (subst (λ (t : List (Option X)). In (Some x) t) (sym e) (in_map (λ (y : X). Some y) i)) in
    (m.item, m.is)

least_by : (l : Link) (size : ℕ) (f : Option Part) (s : Part) → ((t : Part) → f ≡ Some t → (k : ℕ) × (slice_get (heads_of (all_parts l)) k ≡ Some t)) →
    laid.least_of (option_map (λ (o : Ordered). o.number) (option_map (ordered_in l) f)) size (number l s) ≡ (if option_any (joins s) f then size else 0)
least_by l size None s got = refl
least_by l size (Some t) s got =
    let at = got t refl in
    ap (λ (b : Bool). cond b size 0) (ap (λ (n : ℕ). number l s == n) (own-number (all_parts l) at.0 t at.1) ∙ number-is (all_parts l) at.0 s t at.1)

least-is : (l : Link) → ((t : Part) → In t (ordered l) → (k : ℕ) × (slice_get (heads_of (all_parts l)) k ≡ Some t)) → (s : Part) →
    laid.least_of (laid.stack_number (map (ordered_in l) (ordered l))) l.def.stack (number l s) ≡ least_len l s
least-is l got s =
    ap (λ (o : Option Ordered). laid.least_of (option_map (λ (t : Ordered). t.number) o) l.def.stack (number l s)) (sym (find_mapped laid.has_stack (ordered_in l) (ordered l)))
    ∙ least_by l l.def.stack (stack_segment l) s (λ t e. got t (found_as (has_stack l) (ordered l) t e).inside)

abbrev unit : Part → ℕ → List Part → ℕ → Unplaced
unit h o ps n = record { head = h; object = o; parts = ps; least = n }

units_from : (l : Link) (objects : List ℕ) (stack : Option ℕ) (size s : ℕ) (xs : List Part) → ((i j : ℕ) → j ≡ s + i → i < length xs → get_or objects j 0 + 1 ≡ object_number l (get_or xs i own_stack)) →
    ((x : Part) → laid.least_of stack size (number l x) ≡ least_len l x) →
    map (laid.unit_at objects stack size) (enumerate_from s (map (ordered_in l) xs)) ≡ map (unplaced_in l) xs
units_from l objects stack size s [] numbers least = refl
units_from l objects stack size s (x ∷ xs) numbers least =
    let rest : List Unplaced = map (laid.unit_at objects stack size) (enumerate_from (s + 1) (map (ordered_in l) xs)) in
    ap (λ (n : ℕ). unit x n (parts_of l x) (laid.least_of stack size (number l x)) ∷ rest) (numbers 0 s (omega arith) (omega arith))
    ∙ ap (λ (n : ℕ). unit x (object_number l x) (parts_of l x) n ∷ rest) (least x)
    ∙ ap (λ (t : List Unplaced). unplaced_in l x ∷ t)
    (units_from l objects stack size (s + 1) xs (λ i j e lt. numbers (suc i) j (omega (arith, e)) (omega (arith, lt))) least)

-- The logical segments in order, as the rules see them before they have places.
pub units-are : (l : Link) → ((t : Part) → In t (ordered l) → (k : ℕ) × (slice_get (heads_of (all_parts l)) k ≡ Some t)) → laid.units_in l.def.stack (map (ordered_in l) (ordered l)) ≡ map (unplaced_in l) (ordered l)
units-are l got =
    let os : List Ordered = map (ordered_in l) (ordered l) in
    let objects : List ℕ = places same_object (laid.keys_of os) in
    let keys : laid.keys_of os ≡ map (object_key l) (ordered l) = map-map (λ (o : Ordered). o.key) (ordered_in l) (ordered l) in
    let numbers : map (object_number l) (ordered l) ≡ map (λ n. n + 1) objects = object-numbers l ∙ ap (λ (t : List ObjectKey). map (λ n. n + 1) (places same_object t)) (sym keys) in
    let len : length objects ≡ length (ordered l) = sym (length-map objects (λ (n : ℕ). n + 1)) ∙ ap length (sym numbers) ∙ length-map (ordered l) (object_number l) in
    units_from l objects (laid.stack_number os) l.def.stack 0 (ordered l)
    (λ i j e lt.
    let same : i ≡ j = omega (arith, e) in
    ap (λ (k : ℕ). get_or objects k 0 + 1) (sym same)
    ∙ sym (get_or-map (λ (n : ℕ). n + 1) objects i 0 0 (omega (arith, len, lt)))
    ∙ ap (λ (t : List ℕ). get_or t i 0) (sym numbers) ∙ get_or-map (object_number l) (ordered l) i own_stack 0 lt)
    (least-is l got)
