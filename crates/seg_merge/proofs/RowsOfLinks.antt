-- The rows of a link, by the numbers of its logical segments.
use Rattle.std.specs.Prelude.{◌≡◌, ℕ, suc, ◌+◌, ◌<◌, ◌==◌, Bool, true, false, cond, not, ◌||◌, nat_lt, List, [], ◌∷◌, ◌++◌, Option, Some, None, map, filter, length, get_or, slice_get, refl}
use Rattle.std.specs.List.{All, find, list_any, enumerate_from, range_with_len, position, position_or_len}
use Rattle.std.specs.Option.{option_and_then}
use Rattle.std.proofs.Common.{ap, sym, subst, ◌∙◌, arith, true≢false, inl, inr, map-id}
use Rattle.std.proofs.lemmas.List.Elements.{All-map}
use Rattle.std.proofs.lemmas.List.{length-map}
use Rattle.std.proofs.lemmas.List.FromFn.{length-range_with_len, get_or-range_with_len}
use Rattle.std.proofs.lemmas.Option.{slice_get-get_or, slice_get_past, get_or_from_slice_get}
use Rattle.std.proofs.lemmas.Simd.{map-map}
use Rattle.std.proofs.lemmas.Bool.{ltb-false}
use Rattle.std.proofs.lemmas.List.Folds.{find_at}
use Rattle.link_model.specs.Appearance.{firsts}
use Rattle.link_model.specs.Link.{Link}
use Rattle.link_model.specs.Parts.{Part, joins}
use Rattle.link_model.specs.Communals.{parts}
use Rattle.link_model.specs.Order.{ordered, segments, own_stack, own_stacks, by_class}
use Rattle.link_model.specs.Rows.{Row, rows, row_of}
use Rattle.link_model.proofs.KeyTests.{joining}
use Rattle.link_model.proofs.Members.{In, here, there, in_right, in_either, in_at, any_in, from_filter, found_as, finds}
use Rattle.link_model.proofs.RowsStand.{has_row}
use Rattle.seg_parts.specs.LogicalSegments.{heads_of}
use Rattle.seg_parts.specs.Order.{places_with, gathered}
use Rattle.seg_parts.specs.Rows.{Unplaced, row_later, rows_later}
use Rattle.seg_parts.specs.Steps.{unplaced_in}
use Rattle.seg_parts.proofs.StepsAreRules.{rows-are}
use Rattle.seg_merge.specs.ByNumber.{no_row, row_at}
use Rattle.seg_merge.specs.Ordered.{all_parts}
use Rattle.seg_merge.proofs.Gets.{pointwise}
use Rattle.seg_merge.proofs.OrderedSegments.{number-is, own-number}
use Rattle.seg_merge.proofs.OwnStackLast.{heads-are}

-- ---- the segments of rows

heads_from : (earlier : List Row) (us : List Unplaced) → map (λ (r : Row). r.segment) (rows_later earlier us) ≡ map (λ (u : Unplaced). u.head) us
heads_from earlier [] = refl
heads_from earlier (u ∷ us) = ap (λ (t : List Part). u.head ∷ t) (heads_from (earlier ++ row_later earlier u ∷ []) us)

pub row-segments : (l : Link) → map (λ (r : Row). r.segment) (rows l) ≡ ordered l
row-segments l =
    ap (map (λ (r : Row). r.segment)) (rows-are l) ∙ heads_from [] (map (unplaced_in l) (ordered l))
    ∙ map-map (λ (u : Unplaced). u.head) (unplaced_in l) (ordered l) ∙ map-id (ordered l)

-- ---- the first that passes a test

place_mapped : {X : Type 0} (p : X → Bool) (xs : List X) → position_or_len p xs ≡ position_or_len (λ b. b) (map p xs)
place_mapped p [] = refl
place_mapped p (x ∷ xs) = ap (λ (n : ℕ). cond (not (p x)) (1 + n) 0) (place_mapped p xs)

pub same-place : {X Y : Type 0} (p : X → Bool) (q : Y → Bool) (xs : List X) (ys : List Y) → map p xs ≡ map q ys → position_or_len p xs ≡ position_or_len q ys
same-place p q xs ys e = place_mapped p xs ∙ ap (position_or_len (λ b. b)) e ∙ sym (place_mapped q ys)

any_mapped : {X : Type 0} (p : X → Bool) (xs : List X) → list_any p xs ≡ list_any (λ b. b) (map p xs)
any_mapped p [] = refl
any_mapped p (x ∷ xs) = ap (λ (b : Bool). p x || b) (any_mapped p xs)

same_any : {X Y : Type 0} (p : X → Bool) (q : Y → Bool) (xs : List X) (ys : List Y) → map p xs ≡ map q ys → list_any p xs ≡ list_any q ys
same_any p q xs ys e = any_mapped p xs ∙ ap (list_any (λ b. b)) e ∙ sym (any_mapped q ys)

-- By the place among others that pass as these do.
pub find-at : {X Y : Type 0} (p : X → Bool) (q : Y → Bool) (xs : List X) (ys : List Y) → map p xs ≡ map q ys → find p xs ≡ option_and_then (slice_get xs) (position q ys)
find-at {X} {Y} p q xs ys e = by (nat_lt (position_or_len q ys) (length ys)) refl
  where
    by : (b : Bool) → nat_lt (position_or_len q ys) (length ys) ≡ b → find p xs ≡ option_and_then (slice_get xs) (cond b (Some (position_or_len q ys)) None)
    by true lt = find_at p xs ∙ ap (slice_get xs) (same-place p q xs ys e)
    by false past =
        let long : length xs ≡ length ys = sym (length-map xs p) ∙ ap length e ∙ length-map ys q in
        find_at p xs ∙ ap (slice_get xs) (same-place p q xs ys e) ∙ slice_get_past xs (position_or_len q ys) (omega (arith, long, ltb-false (position_or_len q ys) (length ys) past))

-- ---- by number

in_firsts : {X : Type 0} (same : X → X → Bool) (xs : List X) {y : X} → In y (firsts same xs) → In y xs
in_firsts same [] i = i
in_firsts same (x ∷ xs) here = here
in_firsts same (x ∷ xs) (there i) = there (in_firsts same xs (from_filter (λ z. not (same x z)) (firsts same xs) i))

-- Each logical segment has a row.
record HasRow (l : Link) (p : Part) : Type 0 where
  row : Row
  is : row_of l p ≡ Some row

row_there : (l : Link) (p : Part) → In p (ordered l) → HasRow l p
row_there l p i =
    let any : list_any (λ r. joins r.segment p) (rows l) ≡ true =
    same_any (λ r. joins r.segment p) (λ s. joins s p) (rows l) (ordered l) (sym (map-map (λ (s : Part). joins s p) (λ (r : Row). r.segment) (rows l)) ∙ ap (map (λ s. joins s p)) (row-segments l))
    ∙ any_in (λ s. joins s p) i (joining.refl p) in
    let f = finds (λ r. joins r.segment p) (rows l) any in
    record { row = f.item; is = f.is }

has-row : (l : Link) (p : Part) → In p (segments l ++ own_stacks l) → HasRow l p
unfolding ordered
has-row l p i = elim (in_either (segments l) (own_stacks l) i) as (λ t. HasRow l p) [
  | inl j ↦ let r = has_row l p (in_firsts joins (parts l) j) in record { row = r.row; is = r.is }
  | inr j ↦ row_there l p (in_right (by_class l) j)
]

found_any : {X : Type 0} (p : X → Bool) (xs : List X) (x : X) → find p xs ≡ Some x → list_any p xs ≡ true
found_any p xs x e = let f = found_as p xs x e in any_in p f.inside f.passes

-- The first place of a number.
first_place : (s k : ℕ) (ns : List ℕ) → list_any (λ n. n == k) ns ≡ true →
    (0 < length (map (λ (q : ℕ × ℕ). q.0) (filter (λ q. q.1 == k) (enumerate_from s ns)))) × (get_or (map (λ (q : ℕ × ℕ). q.0) (filter (λ q. q.1 == k) (enumerate_from s ns))) 0 0 ≡ s + position_or_len (λ n. n == k) ns)
first_place s k [] e = absurd (true≢false (sym e))
first_place s k (n ∷ ns) e = by (n == k) e (λ h. first_place (s + 1) k ns h)
  where
    by : (b : Bool) → (b || list_any (λ m. m == k) ns) ≡ true →
        (list_any (λ m. m == k) ns ≡ true → (0 < length (map (λ (q : ℕ × ℕ). q.0) (filter (λ q. q.1 == k) (enumerate_from (s + 1) ns)))) × (get_or (map (λ (q : ℕ × ℕ). q.0) (filter (λ q. q.1 == k) (enumerate_from (s + 1) ns))) 0 0 ≡ s + 1 + position_or_len (λ m. m == k) ns)) →
        (0 < length (map (λ (q : ℕ × ℕ). q.0) (cond b ((s, n) ∷ filter (λ q. q.1 == k) (enumerate_from (s + 1) ns)) (filter (λ q. q.1 == k) (enumerate_from (s + 1) ns)))))
        × (get_or (map (λ (q : ℕ × ℕ). q.0) (cond b ((s, n) ∷ filter (λ q. q.1 == k) (enumerate_from (s + 1) ns)) (filter (λ q. q.1 == k) (enumerate_from (s + 1) ns)))) 0 0 ≡ s + cond (not b) (1 + position_or_len (λ m. m == k) ns) 0)
    by true f later = (omega arith, omega arith)
    by false f later = let two = later f in (two.0, omega (arith, two.1))

-- The row of the logical segment with a number.
record AtNumber (l : Link) (order : List ℕ) (k : ℕ) (t : Part) : Type 0 where
  some : 0 < length (places_with order k)
  is : row_of l t ≡ Some (row_at (rows l) (places_with order k))

at_number : (l : Link) (order : List ℕ) (k : ℕ) (t : Part) → map (slice_get (heads_of (all_parts l))) order ≡ map (λ s. Some s) (ordered l) → slice_get (heads_of (all_parts l)) k ≡ Some t → AtNumber l order k t
at_number l order k t in_order e =
    let heads : List Part = heads_of (all_parts l) in
    let p : Row → Bool = λ r. joins r.segment t in
    let tests : map (λ n. n == k) order ≡ map (λ s. joins s t) (ordered l) =
    pointwise (λ n. n == k) (λ s. joins s t) heads
    (λ n s is. ap (λ (m : ℕ). m == k) (sym (own-number (all_parts l) n s is)) ∙ number-is (all_parts l) k s t e) order (ordered l) in_order in
    let same : map p (rows l) ≡ map (λ n. n == k) order =
    sym (map-map (λ (s : Part). joins s t) (λ (r : Row). r.segment) (rows l)) ∙ ap (map (λ s. joins s t)) (row-segments l) ∙ sym tests in
    let row = has-row l t (subst (λ (ps : List Part). In t ps) (heads-are l) (in_at heads k t e)) in
    let any : list_any (λ n. n == k) order ≡ true = sym (same_any p (λ n. n == k) (rows l) order same) ∙ found_any p (rows l) row.row row.is in
    let first = first_place 0 k order any in
    let place : ℕ = get_or (places_with order k) 0 0 in
    let at : place ≡ position_or_len p (rows l) = first.1 ∙ omega arith ∙ sym (same-place p (λ n. n == k) (rows l) order same) in
    let got : row_of l t ≡ slice_get (rows l) place = find_at p (rows l) ∙ ap (slice_get (rows l)) (sym at) in
    record {
      some = first.0;
      is = got ∙ some_at (rows l) place row.row no_row (sym got ∙ row.is);
    }
  where
    some_at : {X : Type 0} (xs : List X) (i : ℕ) (x d : X) → slice_get xs i ≡ Some x → slice_get xs i ≡ Some (get_or xs i d)
    some_at {X} xs i x d h = h ∙ ap (λ (y : X). Some y) (sym (get_or_from_slice_get xs i x d h))

from_range : {X Y : Type 0} (f : ℕ → Y) (g : X → Y) (s : ℕ) (xs : List X) → ((i j : ℕ) (x : X) → j ≡ s + i → slice_get xs i ≡ Some x → g x ≡ f j) → map g xs ≡ map f (range_with_len s (length xs))
from_range f g s [] each = refl
from_range {X} {Y} f g s (x ∷ xs) each =
    ap (λ (y : Y). y ∷ map g xs) (each 0 s x (omega arith) refl)
    ∙ ap (λ (t : List Y). f s ∷ t) (from_range f g (s + 1) xs (λ i j y e is. each (suc i) j y (omega (arith, e)) is))

pub each-some : (l : Link) (order : List ℕ) (count : ℕ) → map (slice_get (heads_of (all_parts l))) order ≡ map (λ s. Some s) (ordered l) → count ≡ length (heads_of (all_parts l)) → All (λ places. 0 < length places) (gathered order count)
each-some l order count in_order len =
    All-map (λ (places : List ℕ). 0 < length places) (places_with order) (range_with_len 0 count)
    (λ i d lt.
    let below : i < count = omega (arith, lt, length-range_with_len 0 count) in
    let is : get_or (range_with_len 0 count) i d ≡ i = get_or-range_with_len 0 count i d below ∙ omega arith in
    subst (λ (k : ℕ). 0 < length (places_with order k)) (sym is)
    (at_number l order i (get_or (heads_of (all_parts l)) i own_stack) in_order (slice_get-get_or (heads_of (all_parts l)) i own_stack (omega (arith, below, len)))).some)

pub rows-by-number : (l : Link) (order : List ℕ) (count : ℕ) → map (slice_get (heads_of (all_parts l))) order ≡ map (λ s. Some s) (ordered l) → count ≡ length (heads_of (all_parts l)) →
    map (row_of l) (heads_of (all_parts l)) ≡ map (λ r. Some r) (map (row_at (rows l)) (gathered order count))
rows-by-number l order count in_order len =
    let f : ℕ → Option Row = λ k. Some (row_at (rows l) (places_with order k)) in
    from_range f (row_of l) 0 (heads_of (all_parts l))
    (λ i j t e is.
    let same : i ≡ j = omega (arith, e) in
    (at_number l order i t in_order is).is ∙ ap f same)
    ∙ ap (λ (n : ℕ). map f (range_with_len 0 n)) (sym len)
    ∙ sym (map-map (λ (places : List ℕ). Some (row_at (rows l) places)) (places_with order) (range_with_len 0 count))
    ∙ sym (map-map (λ (r : Row). Some r) (row_at (rows l)) (gathered order count))
