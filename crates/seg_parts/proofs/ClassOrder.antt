-- Logical segments class by class, by the numbers of their classes.
use Rattle.std.specs.Prelude.{◌≡◌, ℕ, zero, suc, ◌+◌, ◌<◌, ◌==◌, Bool, true, false, cond, not, List, [], ◌∷◌, ◌++◌, Option, Some, map, length, filter, slice_get, bytes_eq, refl}
use Rattle.std.specs.List.{flat_map, enumerate_from, range_with_len, position_or_len, AllPairs}
use Rattle.std.specs.Cmp.{IsEquivalence}
use Rattle.std.specs.Cmp.Lexicographic.{nat_list_eq_equiv}
use Rattle.std.proofs.Common.{ap, sym, ◌∙◌, arith, append_assoc}
use Rattle.std.proofs.Math.ListN.{get_or}
use Rattle.std.proofs.lemmas.Bool.Decides.{nat_tests}
use Rattle.std.proofs.lemmas.List.{map-append, length-append}
use Rattle.std.proofs.lemmas.List.Concat.{concat_is}
use Rattle.link_model.specs.Appearance.{firsts}
use Rattle.link_model.specs.Parts.{Part}
use Rattle.link_model.proofs.Tables.{firsts-apart}
use Rattle.seg_parts.specs.Order.{places_with, gathered, class_numbers, class_count}
use Rattle.seg_parts.specs.Steps.{ClassesInOrder}

-- ---- a place in a table is that of a key

zero_apart : (k : ℕ) → 0 == suc k ≡ false
zero_apart k = grind (arith, nat_tests)

one_apart : (p : ℕ) → 1 + p == 0 ≡ false
one_apart p = grind (arith, nat_tests)

both_less : (p k : ℕ) → 1 + p == suc k ≡ p == k
both_less p k = grind (arith, nat_tests)

place_by : {K : Type 0} (same : K → K → Bool) → IsEquivalence same → (j t : K) (ts : List K) (k : ℕ) (d : K) (b : Bool) → AllPairs (λ a b. same a b ≡ false) (t ∷ ts) → k < suc (length ts) → same j t ≡ b →
    ((i : ℕ) → i < length ts → position_or_len (same j) ts == i ≡ same j (get_or ts i d)) → cond (not b) (1 + position_or_len (same j) ts) 0 == k ≡ same j (get_or (t ∷ ts) k d)
place_by same eqv j t ts zero d true apart below is rest = sym is
place_by same eqv j t ts (suc k) d true apart below is rest =
    zero_apart k ∙ sym (eqv.congr j t (get_or ts k d) is ∙ apart 0 (suc k) d (omega arith) (omega arith))
place_by same eqv j t ts zero d false apart below is rest = one_apart (position_or_len (same j) ts) ∙ sym is
place_by same eqv j t ts (suc k) d false apart below is rest = both_less (position_or_len (same j) ts) k ∙ rest k (omega arith)

pub place-is : {K : Type 0} (same : K → K → Bool) → IsEquivalence same → (j : K) (ts : List K) (k : ℕ) (d : K) → AllPairs (λ a b. same a b ≡ false) ts → k < length ts → position_or_len (same j) ts == k ≡ same j (get_or ts k d)
place-is same eqv j [] k d apart below = absurd (omega arith)
place-is same eqv j (t ∷ ts) k d apart below =
    place_by same eqv j t ts k d (same j t) apart below refl
    (λ i under. place-is same eqv j ts i d (λ a b e lt last. apart (suc a) (suc b) e (omega arith) (omega arith)) under)

-- ---- one class

here : {X : Type 0} (pre : List X) (x : X) (xs : List X) → slice_get (pre ++ x ∷ xs) (length pre) ≡ Some x
here [] x xs = refl
here (p ∷ pre) x xs = here pre x xs

chosen_by : (all : List Part) (a : ℕ) (s : Part) (rest : List (ℕ × ℕ)) (others : List Part) (n k : ℕ) (b : Bool) → n == k ≡ b → slice_get all a ≡ Some s →
    map (slice_get all) (map (λ (q : ℕ × ℕ). q.0) (filter (λ q. q.1 == k) rest)) ≡ map (λ (p : Part). Some p) others →
    map (slice_get all) (map (λ (q : ℕ × ℕ). q.0) (filter (λ q. q.1 == k) ((a, n) ∷ rest))) ≡ map (λ (p : Part). Some p) (cond b (s ∷ others) others)
chosen_by all a s rest others n k true is at e =
    ap (λ (t : Bool). map (slice_get all) (map (λ (q : ℕ × ℕ). q.0) (cond t ((a, n) ∷ filter (λ q. q.1 == k) rest) (filter (λ q. q.1 == k) rest)))) is
    ∙ ap (λ (o : Option Part). o ∷ map (slice_get all) (map (λ (q : ℕ × ℕ). q.0) (filter (λ q. q.1 == k) rest))) at
    ∙ ap (λ (t : List (Option Part)). Some s ∷ t) e
chosen_by all a s rest others n k false is at e =
    ap (λ (t : Bool). map (slice_get all) (map (λ (q : ℕ × ℕ). q.0) (cond t ((a, n) ∷ filter (λ q. q.1 == k) rest) (filter (λ q. q.1 == k) rest)))) is ∙ e

chosen : (all : List Part) (number : List ℕ → ℕ) (test : List ℕ → Bool) (k : ℕ) (pre ss : List Part) (a : ℕ) → all ≡ pre ++ ss → a ≡ length pre → ((c : List ℕ) → number c == k ≡ test c) →
    map (slice_get all) (map (λ (q : ℕ × ℕ). q.0) (filter (λ q. q.1 == k) (enumerate_from a (map number (map (λ s. s.class) ss))))) ≡ map (λ (p : Part). Some p) (filter (λ s. test s.class) ss)
chosen all number test k pre [] a e at says = refl
chosen all number test k pre (s ∷ ss) a e at says =
    let len = length-append pre (s ∷ []) in
    let one : slice_get all a ≡ Some s = ap (λ (t : List Part). slice_get t a) e ∙ ap (λ (n : ℕ). slice_get (pre ++ s ∷ ss) n) at ∙ here pre s ss in
    chosen_by all a s (enumerate_from (a + 1) (map number (map (λ p. p.class) ss))) (filter (λ p. test p.class) ss) (number s.class) k (test s.class) (says s.class) one
    (chosen all number test k (pre ++ s ∷ []) ss (a + 1) (e ∙ sym (append_assoc pre (s ∷ []) ss)) (omega (arith, at, len)) says)

-- ---- all classes

pub get-after : {X : Type 0} (pre : List X) (x : X) (xs : List X) (d : X) → get_or (pre ++ x ∷ xs) (length pre) d ≡ x
get-after [] x xs d = refl
get-after (p ∷ pre) x xs d = get-after pre x xs d

all_classes : (ss : List Part) (numbers : List ℕ) (table pre ts : List (List ℕ)) (a : ℕ) → table ≡ pre ++ ts → a ≡ length pre →
    ((k : ℕ) (d : List ℕ) → k < length table → map (slice_get ss) (places_with numbers k) ≡ map (λ (p : Part). Some p) (filter (λ s. bytes_eq s.class (get_or table k d)) ss)) →
    map (slice_get ss) (flat_map (λ (x : List ℕ). x) (map (places_with numbers) (range_with_len a (length ts)))) ≡ map (λ (p : Part). Some p) (flat_map (λ c. filter (λ s. bytes_eq s.class c) ss) ts)
all_classes ss numbers table pre [] a e at each = refl
all_classes ss numbers table pre (c ∷ ts) a e at each =
    let len = length-append pre (c ∷ []) in
    let total = length-append pre (c ∷ ts) in
    let whole : length table ≡ length (pre ++ c ∷ ts) = ap length e in
    let below : a < length table = omega (arith, at, total, whole) in
    let class : get_or table a c ≡ c = ap (λ (t : List (List ℕ)). get_or t a c) e ∙ ap (λ (n : ℕ). get_or (pre ++ c ∷ ts) n c) at ∙ get-after pre c ts c in
    let rest : List ℕ = flat_map (λ (x : List ℕ). x) (map (places_with numbers) (range_with_len (a + 1) (length ts))) in
    map-append (slice_get ss) (places_with numbers a) rest
    ∙ ap (λ (t : List (Option Part)). t ++ map (slice_get ss) rest) (each a c below ∙ ap (λ (k : List ℕ). map (λ (p : Part). Some p) (filter (λ s. bytes_eq s.class k) ss)) class)
    ∙ ap (λ (t : List (Option Part)). map (λ (p : Part). Some p) (filter (λ s. bytes_eq s.class c) ss) ++ t)
    (all_classes ss numbers table (pre ++ c ∷ []) ts (a + 1) (e ∙ sym (append_assoc pre (c ∷ []) ts)) (omega (arith, at, len)) each)
    ∙ sym (map-append (λ (p : Part). Some p) (filter (λ s. bytes_eq s.class c) ss) (flat_map (λ k. filter (λ s. bytes_eq s.class k) ss) ts))

pub classes_in_order : ClassesInOrder
classes_in_order ss =
    let table : List (List ℕ) = firsts bytes_eq (map (λ s. s.class) ss) in
    ap (map (slice_get ss)) (concat_is (gathered (class_numbers ss) (class_count ss)))
    ∙ all_classes ss (class_numbers ss) table [] table 0 refl refl
    (λ k d below. chosen ss (λ c. position_or_len (bytes_eq c) table) (λ c. bytes_eq c (get_or table k d)) k [] ss 0 refl refl
    (λ c. place-is bytes_eq nat_list_eq_equiv c table k d (firsts-apart bytes_eq (map (λ s. s.class) ss)) below))
