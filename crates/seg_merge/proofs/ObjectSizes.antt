-- The sizes and the flags of objects.
use Rattle.std.specs.Prelude.{◌≡◌, ℕ, zero, suc, ◌+◌, ◌≤◌, ◌==◌, not, List, [], ◌∷◌, ◌++◌, None, map, filter, length, get_or, sum_by, refl}
use Rattle.std.specs.List.{All, zip, enumerate_from, range_with_len}
use Rattle.std.proofs.Common.{ap, sym, ◌∙◌, arith}
use Rattle.std.proofs.lemmas.List.{length-map}
use Rattle.std.proofs.lemmas.List.Sums.{sum_by-cons}
use Rattle.std.proofs.lemmas.List.Elements.{All-map, All-cons, All-filter}
use Rattle.std.proofs.lemmas.List.FromFn.{length-range_with_len, get_or-range_with_len}
use Rattle.std.proofs.lemmas.Simd.{map-map}
use Rattle.link_model.specs.Appearance.{firsts}
use Rattle.link_model.specs.Order.{same_object}
use Rattle.link_model.specs.Rows.{Row, end_in}
use Rattle.link_model.specs.LayoutRefusals.{size_of_rows, too_large_in}
use Rattle.lx_types.specs.declared.limits.TheConstants.{MAX_OBJECTS}
use Rattle.link_model.specs.declared.limits.TheConstants.{MAX_MEMORY}
use Rattle.seg_parts.specs.declared.rows.Unplaced as lent
use Rattle.seg_parts.specs.LogicalSegments.{places}
use Rattle.seg_parts.specs.Placing.{unplaced_shown}
use Rattle.seg_parts.specs.Rows.{Unplaced, row_later, rows_later}
use Rattle.seg_parts.proofs.ObjectNames.{objects_equal}
use Rattle.seg_merge.specs.Ordered.{Ordered}
use Rattle.seg_merge.specs.Laid.{keys_of, object_heads_of, flags_of_objects}
use Rattle.seg_merge.proofs.ObjectTable.{numbers-are, heads-length}
use Rattle.link_model.proofs.RowLimits.{size-within, objects-within}

-- ---- one size with one flag

zipped : (f : ℕ → ℕ) (a : ℕ) (hs : List Ordered) → zip (map f (range_with_len a (length hs))) (map (λ (o : Ordered). o.flags) hs) ≡ map (λ (q : ℕ × Ordered). (f q.0, q.1.flags)) (enumerate_from a hs)
zipped f a [] = refl
zipped f a (h ∷ hs) = ap (λ (t : List (ℕ × ℕ)). let q : ℕ × ℕ = (f a, h.flags) in q ∷ t) (zipped f (a + 1) hs)

pub sizes-are : (os : List Ordered) (rs : List Row) (ends flags : List ℕ) → ends ≡ map (λ o. end_in o rs) (range_with_len 1 (length flags)) → flags ≡ flags_of_objects os →
    zip ends flags ≡ map (λ (q : ℕ × Ordered). (end_in q.0 rs, q.1.flags)) (enumerate_from 1 (object_heads_of os))
sizes-are os rs ends flags ends_are flags_are =
    let count : length flags ≡ length (object_heads_of os) = ap length flags_are ∙ length-map (object_heads_of os) (λ (o : Ordered). o.flags) in
    ap (λ (t : List ℕ). zip t flags) ends_are
    ∙ ap (λ (n : ℕ). zip (map (λ o. end_in o rs) (range_with_len 1 n)) flags) count
    ∙ ap (zip (map (λ o. end_in o rs) (range_with_len 1 (length (object_heads_of os))))) flags_are
    ∙ zipped (λ o. end_in o rs) 1 (object_heads_of os)

-- ---- the numbers of rows' objects

objects_from : (earlier : List Row) (us : List Unplaced) → map (λ (r : Row). r.object) (rows_later earlier us) ≡ map (λ (u : Unplaced). u.object) us
objects_from earlier [] = refl
objects_from earlier (u ∷ us) = ap (λ (t : List ℕ). u.object ∷ t) (objects_from (earlier ++ row_later earlier u ∷ []) us)

pub row-objects : (units : List lent.Unplaced) (objects : List ℕ) → map (λ (u : lent.Unplaced). u.object) units ≡ objects → map (λ (r : Row). r.object) (rows_later [] (map unplaced_shown units)) ≡ map (λ n. n + 1) objects
row-objects units objects e =
    objects_from [] (map unplaced_shown units)
    ∙ map-map (λ (u : Unplaced). u.object) unplaced_shown units
    ∙ sym (map-map (λ (n : ℕ). n + 1) (λ (u : lent.Unplaced). u.object) units) ∙ ap (map (λ n. n + 1)) e

pub row-numbers : (os : List Ordered) (units : List lent.Unplaced) → map (λ (u : lent.Unplaced). u.object) units ≡ places same_object (keys_of os) →
    firsts (λ a b. a == b) (map (λ (r : Row). r.object) (rows_later [] (map unplaced_shown units))) ≡ range_with_len 1 (length (flags_of_objects os))
row-numbers os units e =
    ap (firsts (λ a b. a == b)) (row-objects units (places same_object (keys_of os)) e)
    ∙ numbers-are same_object objects_equal (keys_of os) ∙ ap (range_with_len 1) (sym (heads-length os))

-- ---- their sum

sum_zipped : (xs ys : List ℕ) → sum_by (λ (q : ℕ × ℕ). q.0) (zip xs ys) ≤ sum_by (λ (n : ℕ). n) xs
sum_zipped [] ys = omega arith
sum_zipped (x ∷ xs) [] = omega arith
sum_zipped (x ∷ xs) (y ∷ ys) =
    let q : ℕ × ℕ = (x, y) in
    omega (arith, sum_by-cons (λ (p : ℕ × ℕ). p.0) q (zip xs ys), sum_by-cons (λ (n : ℕ). n) x xs, sum_zipped xs ys)

sum_mapped : (f : ℕ → ℕ) (ns : List ℕ) → sum_by (λ (n : ℕ). n) (map f ns) ≡ sum_by f ns
sum_mapped f [] = refl
sum_mapped f (n ∷ ns) = sum_by-cons (λ (m : ℕ). m) (f n) (map f ns) ∙ ap (λ (k : ℕ). f n + k) (sum_mapped f ns) ∙ sym (sum_by-cons f n ns)

pub sizes-within : (os : List Ordered) (units : List lent.Unplaced) (ends flags : List ℕ) → map (λ (u : lent.Unplaced). u.object) units ≡ places same_object (keys_of os) → flags ≡ flags_of_objects os →
    too_large_in (rows_later [] (map unplaced_shown units)) ≡ None → ends ≡ map (λ o. end_in o (rows_later [] (map unplaced_shown units))) (range_with_len 1 (length flags)) →
    sum_by (λ (q : ℕ × ℕ). q.0) (zip ends flags) ≤ MAX_MEMORY
sizes-within os units ends flags objects flags_are none ends_are =
    let rs : List Row = rows_later [] (map unplaced_shown units) in
    let f : ℕ → ℕ = λ o. end_in o rs in
    let all : sum_by (λ (n : ℕ). n) ends ≡ size_of_rows rs =
    ap (sum_by (λ (n : ℕ). n)) ends_are ∙ sum_mapped f (range_with_len 1 (length flags)) ∙ ap (λ (t : List ℕ). sum_by f (range_with_len 1 (length t))) flags_are
    ∙ ap (sum_by f) (sym (row-numbers os units objects)) in
    omega (arith, sum_zipped ends flags, all, size-within rs none)

-- ---- their count

all_firsts : (ns : List ℕ) (most : ℕ) → All (λ n. n ≤ most) ns → All (λ n. n ≤ most) (firsts (λ a b. a == b) ns)
all_firsts [] most all = all
all_firsts (n ∷ ns) most all =
    let first : n ≤ most = all 0 0 (omega arith) in
    let rest : All (λ k. k ≤ most) ns = λ i d lt. all (suc i) d (omega (arith, lt)) in
    All-cons (λ (k : ℕ). k ≤ most) n (filter (λ k. not (n == k)) (firsts (λ a b. a == b) ns)) first
    (All-filter (λ (k : ℕ). not (n == k)) (λ (k : ℕ). k ≤ most) (firsts (λ a b. a == b) ns) (all_firsts ns most rest))

last_by : (n most : ℕ) (ns : List ℕ) → ns ≡ range_with_len 1 n → All (λ k. k ≤ most) ns → n ≤ most
last_by zero most ns e all = omega arith
last_by (suc n) most ns e all =
    let long : length ns ≡ suc n = ap length e ∙ length-range_with_len 1 (suc n) in
    let at : get_or ns n 0 ≡ 1 + n = ap (λ (t : List ℕ). get_or t n 0) e ∙ get_or-range_with_len 1 (suc n) n 0 (omega arith) in
    let below : get_or ns n 0 ≤ most = all n 0 (omega (arith, long)) in
    omega (arith, at, below)

pub count-within : (os : List Ordered) (units : List lent.Unplaced) → map (λ (u : lent.Unplaced). u.object) units ≡ places same_object (keys_of os) →
    too_large_in (rows_later [] (map unplaced_shown units)) ≡ None → length (flags_of_objects os) ≤ MAX_OBJECTS
count-within os units objects none =
    let rs : List Row = rows_later [] (map unplaced_shown units) in
    let ns : List ℕ = map (λ (r : Row). r.object) rs in
    last_by (length (flags_of_objects os)) MAX_OBJECTS (firsts (λ a b. a == b) ns) (row-numbers os units objects)
    (all_firsts ns MAX_OBJECTS (All-map (λ (n : ℕ). n ≤ MAX_OBJECTS) (λ (r : Row). r.object) rs (objects-within rs none)))
