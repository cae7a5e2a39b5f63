-- Lists by the numbers below a count.
use Rattle.std.specs.Prelude.{◌≡◌, ℕ, zero, suc, ◌+◌, ◌<◌, ◌==◌, Bool, cond, List, [], ◌∷◌, ◌++◌, map, length, take, refl}
use Rattle.std.specs.List.{range_with_len}
use Rattle.std.proofs.Common.{ap, sym, ◌∙◌, arith}
use Rattle.std.proofs.Math.ListN.{get_or, set}
use Rattle.std.proofs.lemmas.List.{append-nil, length-map, get_or-map, map-set, map-append}
use Rattle.std.proofs.lemmas.List.FromFn.{length-map-range_with_len, get_or-map-range_with_len}
use Rattle.std.proofs.lemmas.Bool.{eq-eqb, ne_eqb}
use Rattle.lx_types.proofs.Lists.{range-push}
use Rattle.seg_parts.specs.Order.{places_with, gathered}
use Rattle.seg_parts.proofs.Lists.{picked-more}

-- A list by numbers, with another item for one of them.
pub set-range : {X : Type 0} (f h : ℕ → X) (a n k : ℕ) (y : X) → k < n → h (a + k) ≡ y → ((j : ℕ) → (j ≡ a + k → ⊥) → h j ≡ f j) → set (map f (range_with_len a n)) k y ≡ map h (range_with_len a n)
set-range f h a zero k y lt is others = absurd (omega arith)
set-range {X} f h a (suc n) zero y lt is others =
    let head : y ≡ h a = sym (ap h (omega arith) ∙ is) in
    ap (λ (v : X). v ∷ map f (range_with_len (a + 1) n)) head ∙ ap (λ (t : List X). h a ∷ t) (same_range f h (a + 1) n (λ j above. others j (λ e. absurd (omega arith))))
  where
    same_range : {Y : Type 0} (f h : ℕ → Y) (a n : ℕ) → ((j : ℕ) → a < j + 1 → h j ≡ f j) → map f (range_with_len a n) ≡ map h (range_with_len a n)
    same_range f h a zero e = refl
    same_range {Y} f h a (suc n) e =
        ap (λ (v : Y). v ∷ map f (range_with_len (a + 1) n)) (sym (e a (omega arith))) ∙ ap (λ (t : List Y). h a ∷ t) (same_range f h (a + 1) n (λ j above. e j (omega arith)))
set-range {X} f h a (suc n) (suc k) y lt is others =
    ap (λ (v : X). v ∷ set (map f (range_with_len (a + 1) n)) k y) (sym (others a (λ e. absurd (omega arith))))
    ∙ ap (λ (t : List X). h a ∷ t) (set-range f h (a + 1) n k y (omega arith) (ap h (omega arith) ∙ is) (λ j ne. others j (λ e. ne (omega arith))))

pub places-more : (ns : List ℕ) (i n s : ℕ) → i < length ns → n ≡ get_or ns i n → places_with (take (i + 1) ns) s ≡ places_with (take i ns) s ++ cond (n == s) (i ∷ []) []
places-more ns i n s there is =
    picked-more (λ (q : ℕ × ℕ). q.0) (λ q. q.1 == s) 0 ns i n there is ∙ ap (λ (k : ℕ). places_with (take i ns) s ++ cond (n == s) (k ∷ []) []) (omega arith)

-- One more number.
pub gathered-more : (ns : List ℕ) (count i n : ℕ) (before : List ℕ) → i < length ns → n ≡ get_or ns i n → n < count → before ≡ places_with (take i ns) n →
    set (gathered (take i ns) count) n (before ++ i ∷ []) ≡ gathered (take (i + 1) ns) count
gathered-more ns count i n before there is below same =
    set-range (places_with (take i ns)) (places_with (take (i + 1) ns)) 0 count n (before ++ i ∷ []) below
    (ap (places_with (take (i + 1) ns)) (omega arith) ∙ places-more ns i n n there is
    ∙ ap (λ (b : Bool). places_with (take i ns) n ++ cond b (i ∷ []) []) (eq-eqb n n refl) ∙ ap (λ (t : List ℕ). t ++ i ∷ []) (sym same))
    (λ j ne. places-more ns i n j there is ∙ ap (λ (b : Bool). places_with (take i ns) j ++ cond b (i ∷ []) []) (ne_eqb n j (λ e. ne (omega (arith, e)))) ∙ append-nil (places_with (take i ns) j))

-- The lists of all numbers, one of them longer.
pub lists-more : {V : Type 0} (items : V → List ℕ) (vs : List V) (ns : List ℕ) (count i n : ℕ) (old new : V) → i < length ns → n ≡ get_or ns i n → n < count → map items vs ≡ gathered (take i ns) count →
    old ≡ get_or vs n old → items new ≡ items old ++ i ∷ [] → map items (set vs n new) ≡ gathered (take (i + 1) ns) count
lists-more {V} items vs ns count i n old new there is below all at grown =
    let len : length vs ≡ count = sym (length-map vs items) ∙ ap length all ∙ length-map-range_with_len (places_with (take i ns)) 0 count in
    let before : items old ≡ places_with (take i ns) n =
    ap items at ∙ sym (get_or-map items vs n old (items old) (omega (arith, len)))
    ∙ ap (λ (t : List (List ℕ)). get_or t n (items old)) all ∙ get_or-map-range_with_len (places_with (take i ns)) 0 count n n (items old) below (omega arith) in
    map-set items vs n new
    ∙ ap (λ (t : List (List ℕ)). set t n (items new)) all
    ∙ ap (λ (v : List ℕ). set (gathered (take i ns) count) n v) grown
    ∙ gathered-more ns count i n (items old) there is below before

pub lists-length : {V : Type 0} (items : V → List ℕ) (vs : List V) (ns : List ℕ) (count : ℕ) → map items vs ≡ gathered ns count → length vs ≡ count
lists-length items vs ns count all = sym (length-map vs items) ∙ ap length all ∙ length-map-range_with_len (places_with ns) 0 count

pub range-from-more : {X : Type 0} (f : ℕ → X) (a n : ℕ) → map f (range_with_len a (n + 1)) ≡ map f (range_with_len a n) ++ f (a + n) ∷ []
range-from-more {X} f a n =
    let one : n + 1 ≡ suc n = omega arith in
    ap (λ (m : ℕ). map f (range_with_len a m)) one ∙ ap (map f) (range-push a n) ∙ map-append f (range_with_len a n) ((a + n) ∷ [])

pub range-more : {X : Type 0} (f : ℕ → X) (n : ℕ) → map f (range_with_len 0 (n + 1)) ≡ map f (range_with_len 0 n) ++ f n ∷ []
range-more {X} f n =
    let none : 0 + n ≡ n = omega arith in
    range-from-more f 0 n ∙ ap (λ (m : ℕ). map f (range_with_len 0 n) ++ f m ∷ []) none
