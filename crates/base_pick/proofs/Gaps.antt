-- A pass over ranges that rise by where they begin, and the bases that it leaves after.
use Rattle.std.proofs.Common.{◌≡◌, ℕ, zero, suc, ◌+◌, ◌-◌, ◌*◌, ◌/◌, ◌%◌, ◌≤◌, ◌<◌, ◌⊎◌, ◌∙◌, ◌^◌, max, Bool, true, false, List, [], ◌∷◌, length, map, find, Some, None, get_or, inl, inr, arith, sym, ap, subst, refl, add-zero}
use Rattle.std.proofs.lemmas.Bool.{cases_lt, leb-true, le-leb, lt-leb, or_cases, and_right, and_left, and_from, eq-eqb}
use Rattle.std.proofs.lemmas.List.{get_or_default}
use Rattle.std.proofs.lemmas.List.Folds.{list_all_at}
use Rattle.std.specs.List.{range_with_len, list_all}
use Rattle.std.specs.List.Sorted.{IsNonDecreasingBy}
use Rattle.lx_types.specs.Addresses.{room}
use Rattle.base_pick.specs.declared.occupied.AddressRange.{AddressRange}
use Rattle.base_pick.specs.Places.{is_place, are_apart, range_at, bases_in}

-- at no base of the arena below this one may an object of a size stand
abbrev pub IsPassed : AddressRange → List AddressRange → ℕ → ℕ → Type 0
IsPassed arena ranges size base = (b : ℕ) → arena.from ≤ b → b < base → b % 65536 ≡ 0 → is_place arena ranges size b ≡ false

-- the first n ranges are apart from an object at this base
abbrev pub AreApartBelow : List AddressRange → ℕ → ℕ → ℕ → Type 0
AreApartBelow ranges size base n = (j : ℕ) (d : AddressRange) → j < n → are_apart (range_at base size) (get_or ranges j d) ≡ true

pub apart_cases : (a b : AddressRange) → are_apart a b ≡ true → (a.to ≤ b.from) ⊎ (b.to ≤ a.from)
apart_cases a b h = elim (or_cases _ _ h) [ inl e ↦ inl (leb-true _ _ e) | inr e ↦ inr (leb-true _ _ e) ]

pub apart_before : (a b : AddressRange) → a.to ≤ b.from → are_apart a b ≡ true
apart_before a b h = grind (arith, le-leb a.to b.from h)

pub apart_after : (a b : AddressRange) → b.to ≤ a.from → are_apart a b ≡ true
apart_after a b h = grind (arith, le-leb b.to a.from h)

pub meets : (a b : AddressRange) → b.from < a.to → a.from < b.to → are_apart a b ≡ false
meets a b h k = grind (arith, lt-leb a.to b.from h, lt-leb b.to a.from k)

-- a range that meets the object there leaves no place
pub is_place-met : (arena : AddressRange) (ranges : List AddressRange) (size b i : ℕ) (d : AddressRange) → i < length ranges →
    are_apart (range_at b size) (get_or ranges i d) ≡ false → is_place arena ranges size b ≡ false
is_place-met arena ranges size b i d h e = and_right _ _ (list_all_at (are_apart (range_at b size)) ranges i d h e)

-- ---- one more range, which begins below the end of the object there: the base goes on to where it ends

pub moved-apart : (ranges : List AddressRange) (size base next i : ℕ) (e : AddressRange) → IsNonDecreasingBy (λ (r : AddressRange). r.from) ranges →
    AreApartBelow ranges size base i → i < length ranges → (get_or ranges i e).from < base + room size → base ≤ next → (get_or ranges i e).to ≤ next →
    AreApartBelow ranges size next (i + 1)
moved-apart ranges size base next i e rising apart in_list begins on ends j d h =
    elim (cases_lt j i) [
      | inl below ↦ elim (apart_cases (range_at base size) (get_or ranges j d) (apart j d below)) [
        | inl before ↦ absurd (let up : (get_or ranges j d).from ≤ (get_or ranges i d).from = rising j i d (omega arith) in_list in
            let same : get_or ranges i d ≡ get_or ranges i e = get_or_default ranges i d e in_list in
            let same_from : (get_or ranges i d).from ≡ (get_or ranges i e).from = ap (λ (r : AddressRange). r.from) same in omega arith)
        | inr beyond ↦ apart_after (range_at next size) (get_or ranges j d) (omega arith)
      ]
      | inr above ↦ let at_i : j ≡ i = omega arith in
          let same : get_or ranges j d ≡ get_or ranges i e = ap (λ k. get_or ranges k d) at_i ∙ get_or_default ranges i d e in_list in
          apart_after (range_at next size) (get_or ranges j d) (let ends_there : (get_or ranges j d).to ≡ (get_or ranges i e).to = ap (λ (r : AddressRange). r.to) same in omega arith)
    ]

pub moved-passed : (arena : AddressRange) (ranges : List AddressRange) (size base next i : ℕ) (e : AddressRange) → IsPassed arena ranges size base →
    i < length ranges → (get_or ranges i e).from < base + room size → ((b : ℕ) → b < next → base ≤ b → b % 65536 ≡ 0 → b < (get_or ranges i e).to) →
    IsPassed arena ranges size next
moved-passed arena ranges size base next i e passed in_list begins short b from h whole = elim (cases_lt b base) [
  | inl below ↦ passed b from below whole
  | inr above ↦ is_place-met arena ranges size b i e in_list (meets (range_at b size) (get_or ranges i e) (omega arith) (short b h above whole))
]

-- ---- one more range, which begins after the object there

pub kept-apart : (ranges : List AddressRange) (size base i : ℕ) (e : AddressRange) → AreApartBelow ranges size base i →
    i < length ranges → base + room size ≤ (get_or ranges i e).from → AreApartBelow ranges size base (i + 1)
kept-apart ranges size base i e apart in_list begins j d h =
    elim (cases_lt j i) [
      | inl below ↦ apart j d below
      | inr above ↦ let at_i : j ≡ i = omega arith in
          let same : get_or ranges j d ≡ get_or ranges i e = ap (λ k. get_or ranges k d) at_i ∙ get_or_default ranges i d e in_list in
          apart_before (range_at base size) (get_or ranges j d) (let from_there : (get_or ranges j d).from ≡ (get_or ranges i e).from = ap (λ (r : AddressRange). r.from) same in omega arith)
    ]

-- ---- whole units

-- a multiple below the least one that is no less than t lies below t
pub multiple_below : (t b : ℕ) → b < (t + 65535) / 65536 * 65536 → b % 65536 ≡ 0 → b < t
multiple_below t b h whole = omega arith

pub whole-multiple : (t : ℕ) → (t + 65535) / 65536 * 65536 % 65536 ≡ 0
whole-multiple t = omega arith

pub whole-above : (t : ℕ) → t ≤ (t + 65535) / 65536 * 65536
whole-above t = omega arith

-- ---- the first of the arena's bases that is a place

-- the base number k of an arena that begins at `from`
abbrev pub base_number : ℕ → ℕ → ℕ
base_number from k = from + k * 65536

pub find-at : (p : ℕ → Bool) (from a n k : ℕ) → k < n → p (base_number from (a + k)) ≡ true →
    ((j : ℕ) → j < k → p (base_number from (a + j)) ≡ false) → find p (map (base_number from) (range_with_len a n)) ≡ Some (base_number from (a + k))
find-at p from a zero k h found before = absurd (omega (arith, h))
find-at p from a (suc n) zero h found before =
    let here : p (base_number from a) ≡ true = subst (λ i. p (base_number from i) ≡ true) (add-zero a) found in
    rw here (ap (λ i. Some (base_number from i)) (sym (add-zero a)))
find-at p from a (suc n) (suc k) h found before =
    let here : p (base_number from a) ≡ false = subst (λ i. p (base_number from i) ≡ false) (add-zero a) (before 0 (omega arith)) in
    let further : find p (map (base_number from) (range_with_len (a + 1) n)) ≡ Some (base_number from ((a + 1) + k)) =
    find-at p from (a + 1) n k (omega arith) (subst (λ i. p (base_number from i) ≡ true) (omega arith) found)
    (λ j below. subst (λ i. p (base_number from i) ≡ false) (omega arith) (before (suc j) (omega arith))) in
    rw here (further ∙ ap (λ i. Some (base_number from i)) (omega arith))

pub find-none : (p : ℕ → Bool) (from a n : ℕ) → ((j : ℕ) → j < n → p (base_number from (a + j)) ≡ false) →
    find p (map (base_number from) (range_with_len a n)) ≡ None
find-none p from a zero none = refl
find-none p from a (suc n) none =
    let here : p (base_number from a) ≡ false = subst (λ i. p (base_number from i) ≡ false) (add-zero a) (none 0 (omega arith)) in
    rw here (find-none p from (a + 1) n (λ j below. subst (λ i. p (base_number from i) ≡ false) (omega arith) (none (suc j) (omega arith))))

-- the greater of two numbers is one of them
pub max-both : (a b m : ℕ) → m ≡ max a b → (P : ℕ → Type 0) → P a → P b → P m
max-both a b m is P at_a at_b = elim (cases_lt a b) [
  | inl below ↦ let m_is : b ≡ m = omega (arith, is, below) in subst P m_is at_b
  | inr above ↦ let m_is : a ≡ m = omega (arith, is, above) in subst P m_is at_a
]

-- ---- a pass over all ranges

-- What a pass keeps: a base that is no lesser than the arena's, with no place below it, and apart from the
-- ranges so far.
pub record IsAfter (arena : AddressRange) (ranges : List AddressRange) (size n base : ℕ) : Type 0 where
  pub few : base < 2 ^ 33
  pub whole : base % 65536 ≡ 0
  pub from : arena.from ≤ base
  pub apart : AreApartBelow ranges size base n
  pub passed : IsPassed arena ranges size base

pub IsAfter-moved : (arena : AddressRange) (ranges : List AddressRange) (size i base next : ℕ) (e : AddressRange) → IsAfter arena ranges size i base →
    IsNonDecreasingBy (λ (r : AddressRange). r.from) ranges → i < length ranges → (get_or ranges i e).from < base + room size → next < 2 ^ 33 →
    next ≡ max base (((get_or ranges i e).to + 65535) / 65536 * 65536) → IsAfter arena ranges size (i + 1) next
IsAfter-moved arena ranges size i base next e after rising in_list begins few is =
    let end : ℕ = (get_or ranges i e).to in
    let unit : ℕ = (end + 65535) / 65536 * 65536 in
    record {
      few = few;
      whole = max-both base unit next is (λ n. n % 65536 ≡ 0) after.whole (whole-multiple end);
      from = omega (arith, after.from, is);
      apart = moved-apart ranges size base next i e rising after.apart in_list begins (omega (arith, is)) (omega (arith, is, whole-above end));
      passed = moved-passed arena ranges size base next i e after.passed in_list begins
          (λ b h above whole. multiple_below end b (omega (arith, is, h, above)) whole);
    }

pub IsAfter-kept : (arena : AddressRange) (ranges : List AddressRange) (size i base : ℕ) (e : AddressRange) → IsAfter arena ranges size i base →
    i < length ranges → base + room size ≤ (get_or ranges i e).from → IsAfter arena ranges size (i + 1) base
IsAfter-kept arena ranges size i base e after in_list begins = record {
  few = after.few;
  whole = after.whole;
  from = after.from;
  apart = kept-apart ranges size base i e after.apart in_list begins;
  passed = after.passed;
}

pub IsAfter-first : (arena : AddressRange) (ranges : List AddressRange) (size : ℕ) → arena.from < 2 ^ 32 → arena.from % 65536 ≡ 0 → IsAfter arena ranges size 0 arena.from
IsAfter-first arena ranges size few whole = record {
  few = omega (arith, few);
  whole = whole;
  from = omega arith;
  apart = λ j d h. absurd (omega (arith, h));
  passed = λ b from h whole. absurd (omega (arith, from, h));
}

-- one more range, by what is made of it
pub IsAfter-more : (arena : AddressRange) (ranges : List AddressRange) (size i base next : ℕ) (e : AddressRange) → IsAfter arena ranges size i base →
    IsNonDecreasingBy (λ (r : AddressRange). r.from) ranges → i < length ranges → next < 2 ^ 33 →
    ((get_or ranges i e).from < base + room size → next ≡ max base (((get_or ranges i e).to + 65535) / 65536 * 65536)) →
    (base + room size ≤ (get_or ranges i e).from → next ≡ base) → IsAfter arena ranges size (i + 1) next
IsAfter-more arena ranges size i base next e after rising in_list few met kept = elim (cases_lt (get_or ranges i e).from (base + room size)) [
  | inl begins ↦ IsAfter-moved arena ranges size i base next e after rising in_list begins few (met begins)
  | inr begins ↦ subst (λ b. IsAfter arena ranges size (i + 1) b) (sym (kept begins)) (IsAfter-kept arena ranges size i base e after in_list begins)
]

-- ---- the end of a pass

all_apart : (p : AddressRange → Bool) (ranges : List AddressRange) → ((j : ℕ) (d : AddressRange) → j < length ranges → p (get_or ranges j d) ≡ true) → list_all p ranges ≡ true
all_apart p [] each = refl
all_apart p (r ∷ ranges) each = and_from (p r) (list_all p ranges) (each 0 r (omega (arith))) (all_apart p ranges (λ j d below. each (suc j) d (omega (arith, below))))

pub room-unit : (size : ℕ) → 65536 ≤ room size
room-unit size = omega arith

is_place-there : (arena : AddressRange) (ranges : List AddressRange) (size base : ℕ) → IsAfter arena ranges size (length ranges) base →
    base + room size ≤ arena.to → is_place arena ranges size base ≡ true
is_place-there arena ranges size base after fits =
    and_from _ _ (and_from _ _ (and_from _ _ (eq-eqb (base % 65536) 0 after.whole) (le-leb arena.from base after.from)) (le-leb (base + room size) arena.to fits))
    (all_apart (are_apart (range_at base size)) ranges after.apart)

-- the base that a pass ends with is the least place
pub least-found : (arena : AddressRange) (ranges : List AddressRange) (size base : ℕ) → arena.from % 65536 ≡ 0 → IsAfter arena ranges size (length ranges) base →
    base + room size ≤ arena.to → find (is_place arena ranges size) (bases_in arena) ≡ Some base
least-found arena ranges size base whole after fits =
    let k : ℕ = (base - arena.from) / 65536 in
    let at_base : arena.from + (0 + k) * 65536 ≡ base = omega (arith, whole, after.whole, after.from) in
    find-at (is_place arena ranges size) arena.from 0 ((arena.to - arena.from) / 65536) k (omega (arith, fits, after.from, room-unit size))
    (subst (λ b. is_place arena ranges size b ≡ true) (sym at_base) (is_place-there arena ranges size base after fits))
    (λ j below. after.passed (arena.from + (0 + j) * 65536) (omega arith) (omega (arith, at_base, below)) (omega (arith, whole)))
    ∙ ap Some at_base

-- where there is no room after it, there is none
pub least-none : (arena : AddressRange) (ranges : List AddressRange) (size base : ℕ) → arena.from % 65536 ≡ 0 → IsAfter arena ranges size (length ranges) base →
    arena.to < base + room size → find (is_place arena ranges size) (bases_in arena) ≡ None
least-none arena ranges size base whole after full =
    find-none (is_place arena ranges size) arena.from 0 ((arena.to - arena.from) / 65536)
    (λ j in_arena. let b : ℕ = arena.from + (0 + j) * 65536 in elim (cases_lt b base) [
      | inl below ↦ after.passed b (omega arith) below (omega (arith, whole))
      | inr above ↦ and_left _ _ (and_right _ _ (lt-leb (b + room size) arena.to (omega (arith, full, above))))
    ])
