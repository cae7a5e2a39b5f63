-- Forwarders are a loop exactly where they come to a place a second time.
use Rattle.std.proofs.Common.{◌≡◌, ℕ, zero, suc, ◌+◌, ◌*◌, ◌-◌, ◌<◌, ◌≤◌, Bool, true, false, cond, eqb, List, [], ◌∷◌, length, map, get_or, Option, Some, None, Result, Ok, Err, refl, sym, subst, ap, ◌∙◌, arith, ◌⊎◌, inl, inr}
use Rattle.std.specs.Prelude.{◌||◌, find, option_map, unwrap_or}
use Rattle.std.specs.List.{list_any, range_with_len, IsDistinct, AllByRecursion as Each}
use Rattle.std.proofs.Math.Nat.{suc-mul}
use Rattle.std.proofs.lemmas.Bool.Decides.{nat_tests}
use Rattle.std.proofs.lemmas.List.Sums.{sum_by-cons}
use Rattle.std.proofs.lemmas.List.FromFn.{length-map-range_with_len, get_or-map-range_with_len}
use Rattle.std.proofs.lemmas.Map.Steps.{length-le_from_distinct_below}
use Rattle.std.proofs.lemmas.Bool.{eqb-true}
use Rattle.lx_types.specs.declared.parts.Parts.{Parts}
use Rattle.lx_types.specs.declared.entry.EntryHead.{EntryHead}
use Rattle.lx_types.specs.declared.entry.EntryHead.TheVariants.{At, Gate286, Forward}
use Rattle.lx_types.specs.Parts.{entry_of}
use Rattle.lx_model.specs.declared.library.Spot.{Spot}
use Rattle.lx_model.specs.declared.library.EntryFault.{EntryFault}
use Rattle.lx_model.specs.declared.library.EntryFault.TheVariants as faults
use Rattle.lx_model.specs.Library.{module_of}
use Rattle.lx_model.specs.Entries.{OrdinalOf, Stands, spot, fails, forwards, place_or_none, head_at, stands_at, import_place, followed, entry_count, Entry, forwarded, ComesBack}
use Rattle.lx_model.proofs.Each.{each_map, each_in_range}
use Rattle.lx_model.proofs.Visits.{In}

-- ---- one forwarder more, or many

pub forwarded_if : Stands → ℕ → List Parts → Option OrdinalOf
unfolding forwarded
forwarded_if s n lib = elim s [ spot a ↦ None | fails e ↦ None | forwards q ↦ forwarded n lib q ]

-- a walk of one forwarder or more begins with one
pub record Begins (n : ℕ) (lib : List Parts) (p q : OrdinalOf) : Type 0 where
  next : OrdinalOf
  here : stands_at lib p ≡ forwards next
  after : forwarded n lib next ≡ Some q

begins : (n : ℕ) (lib : List Parts) (p q : OrdinalOf) → forwarded (suc n) lib p ≡ Some q → Begins n lib p q
unfolding forwarded forwarded_if
begins n lib p q e = by_stands (stands_at lib p) refl e
  where
    by_stands : (s : Stands) → stands_at lib p ≡ s → forwarded_if s n lib ≡ Some q → Begins n lib p q
    by_stands (spot a) is h = absurd cc
    by_stands (fails f) is h = absurd cc
    by_stands (forwards r) is h = record { next = r; here = is; after = h }

pub step_is : (n : ℕ) (lib : List Parts) (p r : OrdinalOf) → stands_at lib p ≡ forwards r → forwarded (suc n) lib p ≡ forwarded n lib r
unfolding forwarded forwarded_if
step_is n lib p r here = ap (λ (s : Stands). forwarded_if s n lib) here

pub followed_if : Stands → ℕ → List Parts → Result Spot EntryFault
unfolding followed
followed_if s n lib = elim s [ spot a ↦ Ok a | fails e ↦ Err e | forwards q ↦ followed n lib q ]

pub follow_is : (n : ℕ) (lib : List Parts) (p r : OrdinalOf) → stands_at lib p ≡ forwards r → followed (suc n) lib p ≡ followed n lib r
unfolding followed followed_if
follow_is n lib p r here = ap (λ (s : Stands). followed_if s n lib) here

suc-first : (a b : ℕ) → suc a + b ≡ suc (a + b)
suc-first a b = omega arith

-- what follows a + b forwarders
forwarded-add : (a b : ℕ) (lib : List Parts) (p q : OrdinalOf) → forwarded a lib p ≡ Some q → forwarded (a + b) lib p ≡ forwarded b lib q
unfolding forwarded
forwarded-add zero b lib p q e = let same : p ≡ q = cc in let none : 0 + b ≡ b = omega arith in rw (none, same) refl
forwarded-add (suc a) b lib p q e =
    let s = begins a lib p q e in
    rw (suc-first a b) (step_is (a + b) lib p s.next s.here ∙ forwarded-add a b lib s.next q s.after)

-- a front of a walk is a walk
forwarded-front : (a b : ℕ) (lib : List Parts) (p r : OrdinalOf) → forwarded (a + b) lib p ≡ Some r → (q : OrdinalOf) × (forwarded a lib p ≡ Some q)
unfolding forwarded
forwarded-front zero b lib p r e = (p, refl)
forwarded-front (suc a) b lib p r e =
    let s = begins (a + b) lib p r (rw (suc-first a b) at e) in
    let rest = forwarded-front a b lib s.next r s.after in
    (rest.0, step_is a lib p s.next s.here ∙ rest.1)

-- ---- a walk that goes on is a loop, and a loop goes on

goes_on : (n : ℕ) (lib : List Parts) (p q : OrdinalOf) → forwarded n lib p ≡ Some q → followed n lib p ≡ Err faults.ForwardLoop
unfolding followed
goes_on zero lib p q e = refl
goes_on (suc n) lib p q e = let s = begins n lib p q e in follow_is n lib p s.next s.here ∙ goes_on n lib s.next q s.after

-- no place is a loop by itself
import_is_no_loop : (o : Option OrdinalOf) → place_or_none o ≡ fails faults.ForwardLoop → ⊥
import_is_no_loop (Some p) e = cc
import_is_no_loop None e = cc

head_is_no_loop : (lib : List Parts) (m : ℕ) (o : Option EntryHead) → head_at lib m o ≡ fails faults.ForwardLoop → ⊥
head_is_no_loop lib m None e = cc
head_is_no_loop lib m (Some (At object offset)) e = cc
head_is_no_loop lib m (Some (Gate286 object offset)) e = cc
head_is_no_loop lib m (Some (Forward import key)) e = import_is_no_loop (import_place lib m import key) e

loop_goes_on : (n : ℕ) (lib : List Parts) (p : OrdinalOf) → followed n lib p ≡ Err faults.ForwardLoop → (q : OrdinalOf) × (forwarded n lib p ≡ Some q)
unfolding forwarded followed followed_if
loop_goes_on zero lib p e = (p, refl)
loop_goes_on (suc n) lib p e = by_stands (λ r h. loop_goes_on n lib r h) (stands_at lib p) refl e
  where
    by_stands : ((r : OrdinalOf) → followed n lib r ≡ Err faults.ForwardLoop → (q : OrdinalOf) × (forwarded n lib r ≡ Some q)) →
        (s : Stands) → stands_at lib p ≡ s → followed_if s n lib ≡ Err faults.ForwardLoop → (q : OrdinalOf) × (forwarded (suc n) lib p ≡ Some q)
    by_stands again (spot a) is h = absurd cc
    by_stands again (fails f) is h = let loop : f ≡ faults.ForwardLoop = cc in absurd (head_is_no_loop lib p.0 (entry_of (module_of lib p.0).entries p.1) (is ∙ ap (λ (x : EntryFault). fails x) loop))
    by_stands again (forwards r) is h = let rest = again r h in (rest.0, step_is n lib p r is ∙ rest.1)

-- ---- a walk that comes back goes on for ever

-- d forwarders and one lead from a place to itself
turns : (k d : ℕ) (lib : List Parts) (p : OrdinalOf) → forwarded (suc d) lib p ≡ Some p → forwarded (k * suc d) lib p ≡ Some p
unfolding forwarded
turns zero d lib p e = let none : 0 * suc d ≡ 0 = omega arith in rw none refl
turns (suc k) d lib p e =
    let more : suc k * suc d ≡ suc d + k * suc d = let product = suc-mul k (suc d) in omega (arith, product) in
    rw more (forwarded-add (suc d) (k * suc d) lib p p e ∙ turns k d lib p e)

mul-suc-ge : (n d : ℕ) → n ≤ n * suc d
mul-suc-ge zero d = omega arith
mul-suc-ge (suc n) d = let rest = mul-suc-ge n d in let product = suc-mul n (suc d) in omega (arith, rest, product)

pub comes_back_loops : (lib : List Parts) (place : OrdinalOf) → ComesBack lib place → Entry lib place ≡ Err faults.ForwardLoop
unfolding Entry
comes_back_loops lib place (i, j, lt, back) =
    let p = back.0 in
    let n = suc (entry_count lib) in
    let d = j - i - 1 in
    let whole : i + suc d ≡ j = omega arith in
    let turn : forwarded (suc d) lib p ≡ Some p = sym (forwarded-add i (suc d) lib place p back.1) ∙ ap (λ (x : ℕ). forwarded x lib place) whole ∙ back.2 in
    let far : forwarded (i + n * suc d) lib place ≡ Some p = forwarded-add i (n * suc d) lib place p back.1 ∙ turns n d lib p turn in
    let product = mul-suc-ge n d in
    let split : i + n * suc d ≡ n + (i + n * suc d - n) = omega (arith, product) in
    let front = forwarded-front n (i + n * suc d - n) lib place p (rw (← split) far) in
    goes_on n lib place front.0 front.1

-- ---- the number of a place among the entries of a library

abbrev pub index_of : ℕ → List (ℕ × EntryHead) → ℕ
index_of ordinal [] = 0
index_of ordinal (e ∷ es) = cond (eqb e.0 ordinal) 0 (suc (index_of ordinal es))

abbrev pub place_number : List Parts → ℕ → ℕ → ℕ
place_number [] m ordinal = 0
place_number (x ∷ lib) zero ordinal = index_of ordinal x.entries
place_number (x ∷ lib) (suc m) ordinal = length x.entries + place_number lib m ordinal

-- the ordinal has an entry
abbrev pub Has : List (ℕ × EntryHead) → ℕ → Type 0
Has es ordinal = (h : EntryHead) × (entry_of es ordinal ≡ Some h)

-- of the first entry with this ordinal, or of the others
abbrev pub entry_if : Bool → ℕ × EntryHead → List (ℕ × EntryHead) → ℕ → Option EntryHead
entry_if b e es ordinal = option_map (λ x. x.1) (cond b (Some e) (find (λ x. eqb x.0 ordinal) es))

index_below : (es : List (ℕ × EntryHead)) (ordinal : ℕ) → Has es ordinal → index_of ordinal es < length es
index_below [] ordinal h = let none : None ≡ Some h.0 = h.1 in absurd cc
index_below (e ∷ es) ordinal h = by_test (λ g. index_below es ordinal g) (eqb e.0 ordinal) h
  where
    by_test : (Has es ordinal → index_of ordinal es < length es) → (b : Bool) → (g : EntryHead) × (entry_if b e es ordinal ≡ Some g) → cond b 0 (suc (index_of ordinal es)) < length (e ∷ es)
    by_test again true g = omega arith
    by_test again false g = let rest = again g in omega arith

index_same : (es : List (ℕ × EntryHead)) (a b : ℕ) → Has es a → Has es b → index_of a es ≡ index_of b es → a ≡ b
index_same [] a b h g same = let none : None ≡ Some h.0 = h.1 in absurd cc
index_same (e ∷ es) a b h g same = by_tests (λ i j k. index_same es a b i j k) (eqb e.0 a) (eqb e.0 b) refl refl h g same
  where
    by_tests : (Has es a → Has es b → index_of a es ≡ index_of b es → a ≡ b) → (s t : Bool) → eqb e.0 a ≡ s → eqb e.0 b ≡ t →
        (x : EntryHead) × (entry_if s e es a ≡ Some x) → (y : EntryHead) × (entry_if t e es b ≡ Some y) → cond s 0 (suc (index_of a es)) ≡ cond t 0 (suc (index_of b es)) → a ≡ b
    by_tests again true true p q i j k = sym (eqb-true e.0 a p) ∙ eqb-true e.0 b q
    by_tests again true false p q i j k = absurd (omega arith)
    by_tests again false true p q i j k = absurd (omega arith)
    by_tests again false false p q i j k = again i j (omega arith)

number_below : (lib : List Parts) (m ordinal : ℕ) → Has (module_of lib m).entries ordinal → place_number lib m ordinal < entry_count lib
number_below [] m ordinal h = let none : None ≡ Some h.0 = h.1 in absurd cc
number_below (x ∷ lib) zero ordinal h = let here = index_below x.entries ordinal h in let sum = sum_by-cons (λ (p : Parts). length p.entries) x lib in omega (arith, here, sum)
number_below (x ∷ lib) (suc m) ordinal h = let there = number_below lib m ordinal h in let sum = sum_by-cons (λ (p : Parts). length p.entries) x lib in omega (arith, there, sum)

number_same : (lib : List Parts) (m a n b : ℕ) → Has (module_of lib m).entries a → Has (module_of lib n).entries b → place_number lib m a ≡ place_number lib n b → (m ≡ n) × (a ≡ b)
number_same [] m a n b h g same = let none : None ≡ Some h.0 = h.1 in absurd cc
number_same (x ∷ lib) zero a zero b h g same = (refl, index_same x.entries a b h g same)
number_same (x ∷ lib) zero a (suc n) b h g same = let here = index_below x.entries a h in absurd (omega arith)
number_same (x ∷ lib) (suc m) a zero b h g same = let here = index_below x.entries b g in absurd (omega arith)
number_same (x ∷ lib) (suc m) a (suc n) b h g same = let rest = number_same lib m a n b h g (omega arith) in (ap suc rest.0, rest.1)

-- ---- a walk over more places than there are entries

-- a walk that goes on stands at entries
has_entry : (lib : List Parts) (m : ℕ) (o : Option EntryHead) (r : OrdinalOf) → head_at lib m o ≡ forwards r → (h : EntryHead) × (o ≡ Some h)
has_entry lib m None r e = absurd cc
has_entry lib m (Some h) r e = (h, refl)

abbrev pub place_at : List Parts → OrdinalOf → ℕ → OrdinalOf
place_at lib start k = unwrap_or (forwarded k lib start) start

-- a place of a walk that goes on from it
pub record Stood (lib : List Parts) (start : OrdinalOf) (k : ℕ) : Type 0 where
  is_there : forwarded k lib start ≡ Some (place_at lib start k)
  has : Has (module_of lib (place_at lib start k).0).entries (place_at lib start k).1

stood : (lib : List Parts) (start q : OrdinalOf) (n k : ℕ) → k < n → forwarded n lib start ≡ Some q → Stood lib start k
unfolding forwarded
stood lib start q n k lt e =
    let split : n ≡ k + (n - k) = omega arith in
    let split_more : n ≡ (k + 1) + (n - (k + 1)) = omega arith in
    let front = forwarded-front k (n - k) lib start q (subst (λ (x : ℕ). forwarded x lib start ≡ Some q) split e) in
    let more = forwarded-front (k + 1) (n - (k + 1)) lib start q (subst (λ (x : ℕ). forwarded x lib start ≡ Some q) split_more e) in
    let here : place_at lib start k ≡ front.0 = ap (λ (o : Option OrdinalOf). unwrap_or o start) front.1 in
    let one : forwarded 1 lib front.0 ≡ Some more.0 = sym (forwarded-add k 1 lib start front.0 front.1) ∙ more.1 in
    let s = begins 0 lib front.0 more.0 one in
    let entry = has_entry lib front.0.0 (entry_of (module_of lib front.0.0).entries front.0.1) s.next s.here in
    record {
      is_there = front.1 ∙ ap (λ (x : OrdinalOf). some_place x) (sym here);
      has = subst (λ (x : OrdinalOf). Has (module_of lib x.0).entries x.1) (sym here) entry;
    }
  where
    some_place : OrdinalOf → Option OrdinalOf
    some_place x = Some x

abbrev pub number_of : List Parts → OrdinalOf → ℕ → ℕ
number_of lib start k = let p = place_at lib start k in place_number lib p.0 p.1

-- two of the numbers are equal, or all are different
pub record Repeats (xs : List ℕ) : Type 0 where
  earlier : ℕ
  later : ℕ
  order : earlier < later
  within : later < length xs
  same : get_or xs earlier 0 ≡ get_or xs later 0

seek : (x : ℕ) (xs : List ℕ) → Each (λ y. eqb x y ≡ false) xs ⊎ ((k : ℕ) × (k < length xs) × (x ≡ get_or xs k 0))
seek x [] = inl tt
seek x (y ∷ ys) = by_test (eqb x y) refl (seek x ys)
  where
    by_test : (b : Bool) → eqb x y ≡ b → Each (λ z. eqb x z ≡ false) ys ⊎ ((k : ℕ) × (k < length ys) × (x ≡ get_or ys k 0)) →
        Each (λ z. eqb x z ≡ false) (y ∷ ys) ⊎ ((k : ℕ) × (k < length (y ∷ ys)) × (x ≡ get_or (y ∷ ys) k 0))
    by_test true e rest = inr (0, omega arith, eqb-true x y e)
    by_test false e (inl apart) = inl (e, apart)
    by_test false e (inr found) = inr (suc found.0, omega arith, found.2)

distinct_or_not : (xs : List ℕ) → IsDistinct eqb xs ⊎ Repeats xs
unfolding IsDistinct
distinct_or_not [] = inl tt
distinct_or_not (x ∷ xs) = elim (seek x xs) [
  | inl apart ↦ elim (distinct_or_not xs) [
    | inl others ↦ inl (apart, others)
    | inr r ↦ inr (record { earlier = suc r.earlier; later = suc r.later; order = omega arith; within = omega arith; same = r.same })
  ]
  | inr found ↦ inr (record { earlier = 0; later = suc found.0; order = omega arith; within = omega arith; same = found.2 })
]

each_among : (n : ℕ) (xs : List ℕ) → Each (λ x. x < n) xs → (q : ℕ) → In q xs → q < n
each_among n [] h q i = absurd i
each_among n (x ∷ xs) h q (inl e) = subst (λ (y : ℕ). y < n) (sym e) h.0
each_among n (x ∷ xs) h q (inr i) = each_among n xs h.1 q i

found_head : (x y : ℕ) (rest : Bool) → (eqb x y || rest) ≡ true → (x ≡ y) ⊎ (rest ≡ true)
found_head x y rest h = grind (arith, nat_tests)

found_in : (x : ℕ) (xs : List ℕ) → list_any (eqb x) xs ≡ true → In x xs
found_in x [] h = absurd cc
found_in x (y ∷ xs) h = elim (found_head x y (list_any (eqb x) xs) h) [ inl e ↦ inl e | inr r ↦ inr (found_in x xs r) ]

-- more numbers below n than n are not all different
crowded : (n : ℕ) (xs : List ℕ) → n < length xs → Each (λ x. x < n) xs → Repeats xs
crowded n xs lt each = elim (distinct_or_not xs) [
  | inl distinct ↦ let few = length-le_from_distinct_below xs n distinct (λ q h. each_among n xs each q (found_in q xs h)) in absurd (omega arith)
  | inr r ↦ r
]

same_place : (p q : OrdinalOf) → p.0 ≡ q.0 → p.1 ≡ q.1 → q ≡ p
same_place (m, a) (n, b) x y = cc

pub loop_comes_back : (lib : List Parts) (place : OrdinalOf) → Entry lib place ≡ Err faults.ForwardLoop → ComesBack lib place
unfolding Entry
loop_comes_back lib place e =
    let count = entry_count lib in
    let n = suc count in
    let far = loop_goes_on n lib place e in
    let numbers = map (number_of lib place) (range_with_len 0 n) in
    let len : length numbers ≡ n = length-map-range_with_len (number_of lib place) 0 n in
    let below : Each (λ x. x < count) numbers
    = each_map (λ x. x < count) (number_of lib place) (range_with_len 0 n)
    (each_in_range (λ k. number_of lib place k < count) 0 n (λ k low high. number_below lib (place_at lib place k).0 (place_at lib place k).1 (stood lib place far.0 n k (omega arith) far.1).has)) in
    let r = crowded count numbers (omega (arith, len)) below in
    let i = r.earlier in
    let j = r.later in
    let first = stood lib place far.0 n i (omega (arith, len, r.order, r.within)) far.1 in
    let second = stood lib place far.0 n j (omega (arith, len, r.within)) far.1 in
    let numbers_same : number_of lib place i ≡ number_of lib place j
    = sym (get_or-map-range_with_len (number_of lib place) 0 n i i 0 (omega (arith, len, r.order, r.within)) (omega arith))
    ∙ r.same ∙ get_or-map-range_with_len (number_of lib place) 0 n j j 0 (omega (arith, len, r.within)) (omega arith) in
    let p = place_at lib place i in
    let q = place_at lib place j in
    let parts = number_same lib p.0 p.1 q.0 q.1 first.has second.has numbers_same in
    let same = same_place p q parts.0 parts.1 in
    (i, j, r.order, (p, first.is_there, subst (λ (x : OrdinalOf). forwarded j lib place ≡ Some x) same second.is_there))
