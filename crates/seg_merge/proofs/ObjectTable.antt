-- Objects are numbered by first appearance.
use Rattle.std.specs.Prelude.{◌≡◌, ℕ, zero, suc, ◌+◌, ◌<◌, ◌≤◌, ◌==◌, Bool, true, false, cond, ◌||◌, List, [], ◌∷◌, ◌++◌, map, take, drop, length, get_or, refl}
use Rattle.std.specs.List.{list_any, range_with_len, position_or_len}
use Rattle.std.specs.Cmp.{IsEquivalence}
use Rattle.std.proofs.Common.{ap, sym, subst, ◌∙◌, arith, append_assoc, true≢false}
use Rattle.std.proofs.lemmas.Bool.{eq-eqb}
use Rattle.std.proofs.lemmas.Bool.Decides.{nat_tests}
use Rattle.std.proofs.lemmas.List.{map-append, append-nil, length-append, length-map, get_or-map}
use Rattle.std.proofs.lemmas.List.Folds.{list_any-append}
use Rattle.lx_types.proofs.Lists.{range-push}
use Rattle.link_model.specs.Appearance.{firsts}
use Rattle.link_model.specs.declared.keys.ObjectKey.{ObjectKey}
use Rattle.link_model.specs.Order.{same_object}
use Rattle.link_model.proofs.KeyTests.{equivalence, object_keys}
use Rattle.link_model.proofs.Members.{placed}
use Rattle.link_model.proofs.Tables.{firsts-push, none_before}
use Rattle.seg_parts.specs.LogicalSegments.{places}
use Rattle.link_types.proofs.Lists.{firsts-keys}
use Rattle.seg_parts.proofs.Lists.{take-push, split-at}
use Rattle.seg_parts.proofs.Tables.{places-push, place-push, place-stays}
use Rattle.seg_parts.proofs.ObjectNames.{objects_equal}
use Rattle.std.proofs.lemmas.Cmp.{nat_eq_equiv}
use Rattle.seg_merge.specs.Ordered.{Ordered}
use Rattle.seg_merge.specs.Laid.{keys_of, object_heads_of, flags_of_objects}

-- ---- the numbers of a table

in_range : (a n k : ℕ) → a ≤ k → k < a + n → list_any (λ m. k == m) (range_with_len a n) ≡ true
in_range a zero k low high = absurd (omega (arith, low, high))
in_range a (suc n) k low high = by (k == a) refl (λ ne. in_range (a + 1) n k (omega (arith, low, ne)) (omega (arith, high)))
  where
    other : (x y : ℕ) → x == y ≡ false → x ≡ y → ⊥
    other x y e same = true≢false (sym (eq-eqb x y same) ∙ e)

    by : (b : Bool) → k == a ≡ b → ((k ≡ a → ⊥) → list_any (λ m. k == m) (range_with_len (a + 1) n) ≡ true) → (b || list_any (λ m. k == m) (range_with_len (a + 1) n)) ≡ true
    by true is later = refl
    by false is later = later (other k a is)

past_range : (a n k : ℕ) → a + n ≤ k → list_any (λ m. k == m) (range_with_len a n) ≡ false
past_range a zero k past = refl
past_range a (suc n) k past = ap (λ (b : Bool). b || list_any (λ m. k == m) (range_with_len (a + 1) n)) (apart k a (omega (arith, past))) ∙ past_range (a + 1) n k (omega (arith, past))
  where
    apart : (x y : ℕ) → y < x → x == y ≡ false
    apart x y lt = grind (arith, nat_tests)

abbrev Numbered : {K : Type 0} → (K → K → Bool) → List K → Type 0
Numbered same ks = firsts (λ a b. a == b) (map (λ n. n + 1) (places same ks)) ≡ range_with_len 1 (length (firsts same ks))

pushed : (count n : ℕ) (b : Bool) → (b ≡ true → n < count) → (b ≡ false → n ≡ count) →
    cond (list_any (λ m. n + 1 == m) (range_with_len 1 count)) (range_with_len 1 count) (range_with_len 1 count ++ (n + 1) ∷ []) ≡ range_with_len 1 (cond b count (suc count))
pushed count n true old new =
    let below = old refl in
    ap (λ (t : Bool). cond t (range_with_len 1 count) (range_with_len 1 count ++ (n + 1) ∷ [])) (in_range 1 count (n + 1) (omega arith) (omega (arith, below)))
pushed count n false old new =
    let is : n ≡ count = new refl in
    let next : n + 1 ≡ 1 + count = omega (arith, is) in
    ap (λ (t : Bool). cond t (range_with_len 1 count) (range_with_len 1 count ++ (n + 1) ∷ [])) (past_range 1 count (n + 1) (omega (arith, is)))
    ∙ ap (λ (k : ℕ). range_with_len 1 count ++ k ∷ []) next ∙ sym (range-push 1 count)

counted : {K : Type 0} (fs : List K) (k : K) (b : Bool) → length (cond b fs (fs ++ k ∷ [])) ≡ cond b (length fs) (suc (length fs))
counted fs k true = refl
counted fs k false = length-append fs (k ∷ []) ∙ omega arith

one_more : {K : Type 0} (same : K → K → Bool) → IsEquivalence same → (ks : List K) (k : K) → Numbered same ks → Numbered same (ks ++ k ∷ [])
one_more {K} same eqv ks k before =
    let fs : List K = firsts same ks in
    let n : ℕ = position_or_len (same k) fs in
    let ns : List ℕ = map (λ m. m + 1) (places same ks) in
    let range : List ℕ = range_with_len 1 (length fs) in
    ap (λ (t : List ℕ). firsts (λ a b. a == b) (map (λ m. m + 1) t)) (places-push same eqv ks k)
    ∙ ap (firsts (λ a b. a == b)) (map-append (λ (m : ℕ). m + 1) (places same ks) (n ∷ []))
    ∙ firsts-push nat_eq_equiv ns (n + 1)
    ∙ ap (λ (t : List ℕ). cond (list_any (λ m. n + 1 == m) t) t (t ++ (n + 1) ∷ [])) before
    ∙ pushed (length fs) n (list_any (same k) fs) (λ e. placed (same k) fs e) (λ e. none_before (same k) fs e)
    ∙ ap (range_with_len 1) (sym (counted fs k (list_any (same k) fs)))
    ∙ ap (λ (t : List K). range_with_len 1 (length t)) (sym (firsts-push eqv ks k))

numbered_from : {K : Type 0} (same : K → K → Bool) → IsEquivalence same → (pre ks : List K) → Numbered same pre → Numbered same (pre ++ ks)
numbered_from same eqv pre [] before = subst (Numbered same) (sym (append-nil pre)) before
numbered_from {K} same eqv pre (k ∷ ks) before =
    subst (Numbered same) (append_assoc pre (k ∷ []) ks) (numbered_from same eqv (pre ++ k ∷ []) ks (one_more same eqv pre k before))

-- Each number from 1 on is that of some key.
pub numbers-are : {K : Type 0} (same : K → K → Bool) → IsEquivalence same → (ks : List K) → firsts (λ a b. a == b) (map (λ n. n + 1) (places same ks)) ≡ range_with_len 1 (length (firsts same ks))
numbers-are same eqv ks = numbered_from same eqv [] ks refl

-- ---- the place of a key is that among those before it

any_last : {X : Type 0} (test : X → Bool) (xs : List X) (x : X) → list_any test xs ≡ true → list_any test (xs ++ x ∷ []) ≡ true
any_last test xs x e = list_any-append test xs (x ∷ []) ∙ ap (λ (b : Bool). b || list_any test (x ∷ [])) e

stays : {K : Type 0} (same : K → K → Bool) → IsEquivalence same → (j : K) (pre post : List K) → list_any (same j) pre ≡ true → position_or_len (same j) (firsts same (pre ++ post)) ≡ position_or_len (same j) (firsts same pre)
stays {K} same eqv j pre [] e = ap (λ (t : List K). position_or_len (same j) (firsts same t)) (append-nil pre)
stays {K} same eqv j pre (k ∷ post) e =
    ap (λ (t : List K). position_or_len (same j) (firsts same t)) (sym (append_assoc pre (k ∷ []) post))
    ∙ stays same eqv j (pre ++ k ∷ []) post (any_last (same j) pre k e) ∙ place-stays same eqv pre k j e

any_here : {K : Type 0} (same : K → K → Bool) → IsEquivalence same → (pre : List K) (k : K) → list_any (same k) (pre ++ k ∷ []) ≡ true
any_here same eqv pre k = list_any-append (same k) pre (k ∷ []) ∙ ap (λ (b : Bool). list_any (same k) pre || (b || false)) (eqv.refl k) ∙ or_true (list_any (same k) pre)
  where
    or_true : (b : Bool) → (b || true) ≡ true
    or_true true = refl
    or_true false = refl

pub place-before : {K : Type 0} (same : K → K → Bool) → IsEquivalence same → (ks : List K) (i d : ℕ) (k : K) → i < length ks → k ≡ get_or ks i k → get_or (places same ks) i d ≡ position_or_len (same k) (firsts same (take i ks))
place-before {K} same eqv ks i d k lt is =
    let pre : List K = take i ks in
    let post : List K = drop (i + 1) ks in
    let split : ks ≡ (pre ++ k ∷ []) ++ post = split-at ks i k lt is ∙ sym (append_assoc pre (k ∷ []) post) in
    get_or-map (λ (j : K). position_or_len (same j) (firsts same ks)) ks i k d lt
    ∙ ap (λ (j : K). position_or_len (same j) (firsts same ks)) (sym is)
    ∙ ap (λ (t : List K). position_or_len (same k) (firsts same t)) split
    ∙ stays same eqv k (pre ++ k ∷ []) post (any_here same eqv pre k) ∙ place-push same eqv pre k

-- ---- the flags of objects

keyed : IsEquivalence (λ (a b : Ordered). same_object a.key b.key)
keyed = equivalence object_keys (λ (o : Ordered). o.key)

any_keyed : (k : ObjectKey) (os : List Ordered) → list_any (λ o. same_object k o.key) os ≡ list_any (same_object k) (keys_of os)
any_keyed k [] = refl
any_keyed k (o ∷ os) = ap (λ (b : Bool). same_object k o.key || b) (any_keyed k os)

heads_keys : (os : List Ordered) → keys_of (object_heads_of os) ≡ firsts same_object (keys_of os)
heads_keys os = firsts-keys (λ (o : Ordered). o.key) same_object os

pub heads-length : (os : List Ordered) → length (flags_of_objects os) ≡ length (firsts same_object (keys_of os))
heads-length os =
    length-map (object_heads_of os) (λ (o : Ordered). o.flags) ∙ sym (length-map (object_heads_of os) (λ (o : Ordered). o.key)) ∙ ap length (heads_keys os)

flags_by : (heads : List Ordered) (o : Ordered) (b : Bool) → map (λ (t : Ordered). t.flags) (cond b heads (heads ++ o ∷ [])) ≡ cond b (map (λ (t : Ordered). t.flags) heads) (map (λ (t : Ordered). t.flags) heads ++ o.flags ∷ [])
flags_by heads o true = refl
flags_by heads o false = map-append (λ (t : Ordered). t.flags) heads (o ∷ [])

abbrev known : List Ordered → Ordered → Bool
known before o = list_any (same_object o.key) (firsts same_object (keys_of before))

flags_more : (os : List Ordered) (i : ℕ) (o : Ordered) → i < length os → o ≡ get_or os i o →
    flags_of_objects (take (i + 1) os) ≡ cond (known (take i os) o) (flags_of_objects (take i os)) (flags_of_objects (take i os) ++ o.flags ∷ [])
flags_more os i o lt is =
    let before : List Ordered = take i os in
    ap flags_of_objects (take-push os i o lt is)
    ∙ ap (map (λ (t : Ordered). t.flags)) (firsts-push keyed before o)
    ∙ ap (λ (b : Bool). map (λ (t : Ordered). t.flags) (cond b (object_heads_of before) (object_heads_of before ++ o ∷ [])))
    (any_keyed o.key (object_heads_of before) ∙ ap (list_any (same_object o.key)) (heads_keys before))
    ∙ flags_by (object_heads_of before) o (known before o)

keys_taken : (os : List Ordered) (i : ℕ) → take i (keys_of os) ≡ keys_of (take i os)
keys_taken [] i = taken_none i
  where
    taken_none : (n : ℕ) → take n (keys_of []) ≡ keys_of (take n [])
    taken_none zero = refl
    taken_none (suc n) = refl
keys_taken (o ∷ os) zero = refl
keys_taken (o ∷ os) (suc i) = ap (λ (t : List ObjectKey). o.key ∷ t) (keys_taken os i)

key_at : (os : List Ordered) (i : ℕ) (o : Ordered) → i < length os → o ≡ get_or os i o → o.key ≡ get_or (keys_of os) i o.key
key_at os i o lt is = ap (λ (t : Ordered). t.key) is ∙ sym (get_or-map (λ (t : Ordered). t.key) os i o o.key lt)

place_of : (os : List Ordered) (i : ℕ) (o : Ordered) → i < length os → o ≡ get_or os i o → get_or (places same_object (keys_of os)) i 0 ≡ position_or_len (same_object o.key) (firsts same_object (keys_of (take i os)))
place_of os i o lt is =
    place-before same_object objects_equal (keys_of os) i 0 o.key (omega (arith, lt, length-map os (λ (t : Ordered). t.key))) (key_at os i o lt is)
    ∙ ap (λ (t : List ObjectKey). position_or_len (same_object o.key) (firsts same_object t)) (keys_taken os i)

-- The flags so far, where the next logical segment begins an object, and where it does not.
pub flags-new : (os : List Ordered) (i : ℕ) (o : Ordered) (flags next : List ℕ) → i < length os → o ≡ get_or os i o → flags ≡ flags_of_objects (take i os) → get_or (places same_object (keys_of os)) i 0 ≡ length flags → next ≡ flags ++ o.flags ∷ [] → next ≡ flags_of_objects (take (i + 1) os)
flags-new os i o flags next lt is so_far place grown = by (known (take i os) o) refl
  where
    by : (b : Bool) → known (take i os) o ≡ b → next ≡ flags_of_objects (take (i + 1) os)
    by true e =
        let at = placed (same_object o.key) (firsts same_object (keys_of (take i os))) e in
        absurd (omega (arith, at, place_of os i o lt is, place, ap length so_far, heads-length (take i os)))
    by false e =
        grown ∙ ap (λ (t : List ℕ). t ++ o.flags ∷ []) so_far
        ∙ ap (λ (b : Bool). cond b (flags_of_objects (take i os)) (flags_of_objects (take i os) ++ o.flags ∷ [])) (sym e) ∙ sym (flags_more os i o lt is)

pub flags-old : (os : List Ordered) (i : ℕ) (o : Ordered) (flags next : List ℕ) → i < length os → o ≡ get_or os i o → flags ≡ flags_of_objects (take i os) → (get_or (places same_object (keys_of os)) i 0 ≡ length flags → ⊥) → next ≡ flags → next ≡ flags_of_objects (take (i + 1) os)
flags-old os i o flags next lt is so_far place same = by (known (take i os) o) refl
  where
    by : (b : Bool) → known (take i os) o ≡ b → next ≡ flags_of_objects (take (i + 1) os)
    by true e =
        same ∙ so_far
        ∙ ap (λ (b : Bool). cond b (flags_of_objects (take i os)) (flags_of_objects (take i os) ++ o.flags ∷ [])) (sym e) ∙ sym (flags_more os i o lt is)
    by false e =
        let at = none_before (same_object o.key) (firsts same_object (keys_of (take i os))) e in
        absurd (place (place_of os i o lt is ∙ at ∙ sym (heads-length (take i os)) ∙ ap length (sym so_far)))
