-- Where pages stand among those that a process has mapped.
use Rattle.std.proofs.Common.{◌≡◌, ◌≢◌, ℕ, zero, suc, ◌-◌, ◌<◌, ◌≤◌, ◌==◌, ◌&&◌, Bool, true, false, List, [], ◌∷◌, map, length, Option, Some, None, get_or, set, inl, inr, refl, sym, ap, ◌∙◌, arith, length-set, get_or-set_same, get_or-set_other, ◌⊎◌, cond, ◌++◌, filter, option_map, subst}
use Rattle.process_pages.proofs.Words.{All, All-from_get_or, All-get_or, AllByRecursion, AreApart, ArePlaces, cases_eq, cases_order, Cover, Eager, get_or-map}
use Rattle.process_pages.proofs.Words.{has_number, is_mapped_at, is_none, is_page, is_some, IsPlaced, length-map, list_any, Mapped, module_of, nat_lt}
use Rattle.process_pages.proofs.Words.{nat_tests, object_of, page, page_with, PageId, PageOf, PagePlaces, pages_of, pages_with, Parts, place_in, position}
use Rattle.process_pages.proofs.Words.{Process, ReachedResidence, reaches, residence_in, ResidenceFor, residences_in, with_first_place, with_place}
use Rattle.process_pages.proofs.Words.{without_places}
use Rattle.lx_types.specs.Sound.{IsNumberOf}
use Rattle.load_model.specs.TouchedPages.{has_page}
use Rattle.process_pages.proofs.Positions.{any_is_position, none_of, length_none, position_cons, position_new, position_other, position_stays, is_less, cleared}
use Rattle.load_model.specs.Modules.{Library}
use Rattle.load_model.specs.Leaving.{keeping}
use Rattle.lx_types.proofs.Lists.{any_map}

-- ---- where a page that is mapped stands

-- ---- rows

pub same_page : (a b : PageId) → is_page a b ≡ true → (a.object ≡ b.object) × (a.page ≡ b.page)
same_page a b e = grind (arith, nat_tests)

pub other_page : (a b : PageId) → is_page a b ≡ false → (a.object ≡ b.object → a.page ≡ b.page → ⊥)
other_page a b e u v = let same : is_page a b ≡ true = grind (arith, nat_tests) in absurd cc

pub place_put : (rows : PagePlaces) (p : PageId) (k : ℕ) → p.object - 1 < length rows → p.page < length (get_or rows (p.object - 1) []) → place_in (with_place rows p k) p ≡ Some k
place_put rows p k u v =
    ap (λ (row : List (Option ℕ)). get_or row p.page None) (get_or-set_same rows (p.object - 1) (set (get_or rows (p.object - 1) []) p.page (Some k)) [] u)
    ∙ get_or-set_same (get_or rows (p.object - 1) []) p.page (Some k) None v

pub place_other : (rows : PagePlaces) (p q : PageId) (k : ℕ) → p.object - 1 < length rows → 1 ≤ p.object → 1 ≤ q.object → (q.object ≡ p.object → q.page ≡ p.page → ⊥) → place_in (with_place rows p k) q ≡ place_in rows q
place_other rows p q k u a b differ = elim (cases_eq (q.object - 1) (p.object - 1)) as (λ _. place_in (with_place rows p k) q ≡ place_in rows q) [
  | inl same ↦
      let object : q.object ≡ p.object = omega arith in
      let page : q.page ≢ p.page = λ e. differ object e in
      ap (λ (o : ℕ). get_or (get_or (with_place rows p k) o []) q.page None) same
      ∙ ap (λ (row : List (Option ℕ)). get_or row q.page None) (get_or-set_same rows (p.object - 1) (set (get_or rows (p.object - 1) []) p.page (Some k)) [] u)
      ∙ get_or-set_other (get_or rows (p.object - 1) []) p.page q.page (Some k) None page
      ∙ ap (λ (o : ℕ). get_or (get_or rows o []) q.page None) (sym same)
  | inr other ↦ ap (λ (row : List (Option ℕ)). get_or row q.page None) (get_or-set_other rows (p.object - 1) (q.object - 1) (set (get_or rows (p.object - 1) []) p.page (Some k)) [] other)
]

pub cover_put : (m : Parts) (rows : PagePlaces) (p : PageId) (k : ℕ) → Cover m rows → Cover m (with_place rows p k)
cover_put m rows p k is = record {
  objects = length-set rows (p.object - 1) _ ∙ is.objects;
  pages = λ object there. elim (cases_eq (object - 1) (p.object - 1)) as (λ _. length (get_or (with_place rows p k) (object - 1) []) ≡ pages_of (object_of m object)) [
    | inl same ↦
        let within : p.object - 1 < length rows = omega (arith, is.objects, there.0, there.1) in
        ap (λ (o : ℕ). length (get_or (with_place rows p k) o [])) same ∙ ap (λ (row : List (Option ℕ)). length row) (get_or-set_same rows (p.object - 1) (set (get_or rows (p.object - 1) []) p.page (Some k)) [] within)
        ∙ length-set (get_or rows (p.object - 1) []) p.page (Some k) ∙ ap (λ (o : ℕ). length (get_or rows o [])) (sym same) ∙ is.pages object there
    | inr other ↦ ap (λ (row : List (Option ℕ)). length row) (get_or-set_other rows (p.object - 1) (object - 1) (set (get_or rows (p.object - 1) []) p.page (Some k)) [] other) ∙ is.pages object there
  ];
}

-- ---- the page among the others

pub is_not : (b c : Bool) → c ≡ false → (b && c) ≡ false
is_not true c e = e
is_not false c e = refl

pub not_at : (serial : ℕ) (q : PageId) (x : Mapped) → (x.of.serial ≡ serial → ⊥) → is_mapped_at serial q x ≡ false
not_at serial q x h = let other : (x.of.serial == serial) ≡ false = grind (arith, nat_tests) in ap (λ b. b && is_page x.of.page q) other

-- ---- all residences

pub serials_differ : (rs : List ResidenceFor) (i k : ℕ) (d : ResidenceFor) → AreApart rs → i < length rs → k < length rs → i ≢ k → (get_or rs k d).serial ≡ (get_or rs i d).serial → ⊥
serials_differ rs i k d apart u v differ e = elim (cases_order i k) as (λ _. ⊥) [
  | inl same ↦ absurd (differ same)
  | inr other ↦ elim other as (λ _. ⊥) [ inl before ↦ apart i k d before v (sym e) | inr after ↦ apart k i d after u e ]
]

pub residences_set : (residences : List ReachedResidence) (k : ℕ) (s : ReachedResidence) → residence_in s ≡ residence_in (get_or residences k s) → residences_in (set residences k s) ≡ residences_in residences
residences_set [] k s e = refl
residences_set (x ∷ xs) zero s e = ap (λ (r : ResidenceFor). r ∷ residences_in xs) e
residences_set (x ∷ xs) (suc k) s e = ap (λ (rs : List ResidenceFor). residence_in x ∷ rs) (residences_set xs k s e)

-- ---- what is mapped has a place

-- a page of the residence is mapped exactly where it has a place
pub mapped_by_place : (m : Parts) (serial : ℕ) (rows : PagePlaces) (mapped : List Mapped) (object n : ℕ) → ArePlaces m serial rows mapped → IsNumberOf object (length m.objects) → n < pages_of (object_of m object) →
    list_any (λ (t : PageOf). (t.serial == serial) && is_page t.page (page object n)) (map (λ (p : Mapped). p.of) mapped) ≡ is_some (place_in rows (page object n))
mapped_by_place m serial rows mapped object n are there within =
    any_map (λ (t : PageOf). (t.serial == serial) && is_page t.page (page object n)) (λ (p : Mapped). p.of) mapped
    ∙ any_is_position (is_mapped_at serial (page object n)) mapped ∙ ap (λ (o : Option ℕ). is_some o) (sym (are object n there within))

-- whether a page is mapped, by its place
pub mapped_as_placed : (lib : List Parts) (mapped : List Mapped) (s : ReachedResidence) (p : PageId) → IsPlaced lib mapped s → IsNumberOf p.object (length (module_of lib (residence_in s).«module»).objects) →
    p.page < pages_of (object_of (module_of lib (residence_in s).«module») p.object) → has_page (map (λ (x : Mapped). x.of) mapped) (residence_in s).serial p ≡ is_some (place_in s.places p)
mapped_as_placed lib mapped s p is object inside = mapped_by_place (module_of lib (residence_in s).«module») (residence_in s).serial s.places mapped p.object p.page is.places object inside

no_position : (o : Option ℕ) → is_some o ≡ false → o ≡ None
no_position None e = refl
no_position (Some k) e = absurd cc

pub not_placed : (serial : ℕ) (mapped : List Mapped) (p : PageId) → has_page (map (λ (x : Mapped). x.of) mapped) serial p ≡ false → position (is_mapped_at serial p) mapped ≡ None
not_placed serial mapped p e =
    no_position (position (is_mapped_at serial p) mapped)
    (sym (any_map (λ (t : PageOf). (t.serial == serial) && is_page t.page p) (λ (x : Mapped). x.of) mapped ∙ any_is_position (is_mapped_at serial p) mapped) ∙ e)

-- ---- one page more of a list, which is put at its place where it is the first such page

-- what the tests of a page say
record HasNumber (rows : PagePlaces) (p : PageId) : Type 0 where
  pub object : 1 ≤ p.object
  pub row : p.object - 1 < length rows
  pub page : p.page < length (get_or rows (p.object - 1) [])

number_by : (o l n m : ℕ) → (nat_lt 0 o && nat_lt (o - 1) l && nat_lt n m) ≡ true → (1 ≤ o) × (o - 1 < l) × (n < m)
number_by o l n m e = grind (arith, nat_tests)

number_back : (o l n m : ℕ) → 1 ≤ o → o - 1 < l → n < m → (nat_lt 0 o && nat_lt (o - 1) l && nat_lt n m) ≡ true
number_back o l n m a b c = grind (arith, nat_tests)

numbered : (rows : PagePlaces) (p : PageId) → has_number rows p ≡ true → HasNumber rows p
numbered rows p e =
    let it = number_by p.object (length rows) p.page (length (get_or rows (p.object - 1) [])) e in
    record { object = it.0; row = it.1; page = it.2 }

is_numbered : (m : Parts) (rows : PagePlaces) (p : PageId) → Cover m rows → IsNumberOf p.object (length m.objects) → p.page < pages_of (object_of m p.object) → has_number rows p ≡ true
is_numbered m rows p cover there inside =
    number_back p.object (length rows) p.page (length (get_or rows (p.object - 1) [])) there.0 (omega (arith, cover.objects, there.0, there.1)) (omega (arith, cover.pages p.object there))

both_true : (a b : Bool) → (a && b) ≡ true → (a ≡ true) × (b ≡ true)
both_true true b e = (refl, e)
both_true false b e = absurd cc

other_false : (a b : Bool) → (a && b) ≡ false → a ≡ true → b ≡ false
other_false true b e h = e
other_false false b e h = absurd cc

no_place : (o : Option ℕ) → is_none o ≡ true → o ≡ None
no_place None e = refl
no_place (Some k) e = absurd cc

kept_place : {X : Type 0} (p : X → Bool) (xs : List X) (y : X) (o : Option ℕ) → is_none o ≡ false → o ≡ position p xs → position p (xs ++ y ∷ []) ≡ position p xs
kept_place p xs y None e h = absurd cc
kept_place p xs y (Some k) e h = position_stays p xs y k (sym h) ∙ h

is_at : (serial : ℕ) (p : PageId) (x : Mapped) → serial ≡ x.of.serial → is_page x.of.page p ≡ true → is_mapped_at serial p x ≡ true
is_at serial p x e h = let own : (x.of.serial == serial) ≡ true = grind (arith, nat_tests) in ap (λ b. b && is_page x.of.page p) own ∙ h

-- the rows of the residence whose page it is
first_places : (m : Parts) (serial : ℕ) (rows : PagePlaces) (mapped : List Mapped) (x : Mapped) → Cover m rows → ArePlaces m serial rows mapped → serial ≡ x.of.serial → (b : Bool) → (has_number rows x.of.page && is_none (place_in rows x.of.page)) ≡ b →
    Cover m (cond b (with_place rows x.of.page (length mapped)) rows) × ArePlaces m serial (cond b (with_place rows x.of.page (length mapped)) rows) (mapped ++ x ∷ [])
first_places m serial rows mapped x cover are own true is = (cover_put m rows x.of.page (length mapped) cover, λ o n there inside. by_page o n there inside (is_page x.of.page (page o n)) refl)
  where
    p : PageId
    p = x.of.page

    tests : (has_number rows p ≡ true) × (is_none (place_in rows p) ≡ true)
    tests = both_true (has_number rows p) (is_none (place_in rows p)) is

    has : HasNumber rows p
    has = numbered rows p tests.0

    by_page : (o n : ℕ) → IsNumberOf o (length m.objects) → n < pages_of (object_of m o) → (b : Bool) → is_page p (page o n) ≡ b →
        place_in (with_place rows p (length mapped)) (page o n) ≡ position (is_mapped_at serial (page o n)) (mapped ++ x ∷ [])
    by_page o n there inside true e =
        let it = same_page p (page o n) e in
        let same : page o n ≡ p = ap (λ (i : ℕ). page i n) (sym it.0) ∙ ap (λ (i : ℕ). page p.object i) (sym it.1) in
        let none : position (is_mapped_at serial (page o n)) mapped ≡ None = sym (are o n there inside) ∙ ap (place_in rows) same ∙ no_place (place_in rows p) tests.1 in
        ap (place_in (with_place rows p (length mapped))) same ∙ place_put rows p (length mapped) has.row has.page
        ∙ sym (position_new (is_mapped_at serial (page o n)) mapped x none (is_at serial (page o n) x own e))
    by_page o n there inside false e =
        place_other rows p (page o n) (length mapped) has.row has.object there.0 (λ u v. other_page p (page o n) e (sym u) (sym v)) ∙ are o n there inside
        ∙ sym (position_other (is_mapped_at serial (page o n)) mapped x (is_not (x.of.serial == serial) (is_page p (page o n)) e))
first_places m serial rows mapped x cover are own false is = (cover, λ o n there inside. are o n there inside ∙ sym (by_page o n there inside (is_page x.of.page (page o n)) refl))
  where
    p : PageId
    p = x.of.page

    by_page : (o n : ℕ) → IsNumberOf o (length m.objects) → n < pages_of (object_of m o) → (b : Bool) → is_page p (page o n) ≡ b →
        position (is_mapped_at serial (page o n)) (mapped ++ x ∷ []) ≡ position (is_mapped_at serial (page o n)) mapped
    by_page o n there inside true e =
        let it = same_page p (page o n) e in
        let same : page o n ≡ p = ap (λ (i : ℕ). page i n) (sym it.0) ∙ ap (λ (i : ℕ). page p.object i) (sym it.1) in
        let has : has_number rows p ≡ true = ap (has_number rows) (sym same) ∙ is_numbered m rows (page o n) cover there inside in
        let some : is_none (place_in rows (page o n)) ≡ false = ap (λ (q : PageId). is_none (place_in rows q)) same ∙ other_false (has_number rows p) (is_none (place_in rows p)) is has in
        kept_place (is_mapped_at serial (page o n)) mapped x (place_in rows (page o n)) some (are o n there inside)
    by_page o n there inside false e = position_other (is_mapped_at serial (page o n)) mapped x (is_not (x.of.serial == serial) (is_page p (page o n)) e)

-- the rows of another residence
pub other_placed : (lib : List Parts) (mapped : List Mapped) (s : ReachedResidence) (x : Mapped) → IsPlaced lib mapped s → (x.of.serial ≡ (residence_in s).serial → ⊥) → IsPlaced lib (mapped ++ x ∷ []) s
other_placed lib mapped s x is differ = record {
  within = is.within;
  cover = is.cover;
  places = λ o n there inside. is.places o n there inside ∙ sym (position_other (is_mapped_at (residence_in s).serial (page o n)) mapped x (not_at (residence_in s).serial (page o n) x differ));
}

pub placed_first : (lib : List Parts) (mapped : List Mapped) (residences : List ReachedResidence) (k : ℕ) (s t : ReachedResidence) (x : Mapped) → All (IsPlaced lib mapped) residences → AreApart (residences_in residences) → k < length residences → s ≡ get_or residences k s →
    (residence_in s).serial ≡ x.of.serial → residence_in t ≡ residence_in s → t.places ≡ with_first_place s.places x.of.page (length mapped) → All (IsPlaced lib (mapped ++ x ∷ [])) (set residences k t)
placed_first lib mapped residences k s t x all apart u at own same put = All-from_get_or P (set residences k t) s (λ i v. by_index i (omega (arith, length-set residences k t)) (cases_eq i k))
  where
    P : ReachedResidence → Type 0
    P = IsPlaced lib (mapped ++ x ∷ [])

    m : Parts
    m = module_of lib (residence_in s).«module»

    here : IsPlaced lib mapped s
    here = let Q : ReachedResidence → Type 0 = IsPlaced lib mapped in subst Q (sym at) (All-get_or (IsPlaced lib mapped) residences k s u all)

    by_index : (i : ℕ) → i < length residences → (i ≡ k) ⊎ (i ≢ k) → P (get_or (set residences k t) i s)
    by_index i v (inl e) =
        let first = first_places m (residence_in s).serial s.places mapped x here.cover here.places own (has_number s.places x.of.page && is_none (place_in s.places x.of.page)) refl in
        let T : ResidenceFor → Type 0 = λ r. (r.«module» < length lib) × Cover (module_of lib r.«module») t.places × ArePlaces (module_of lib r.«module») r.serial t.places (mapped ++ x ∷ []) in
        let R : PagePlaces → Type 0 = λ rows. Cover m rows × ArePlaces m (residence_in s).serial rows (mapped ++ x ∷ []) in
        let rows : R t.places = subst R (sym put) first in
        let it : T (residence_in t) = subst T (sym same) (here.within, rows.0, rows.1) in
        let is : get_or (set residences k t) i s ≡ t = ap (λ (j : ℕ). get_or (set residences k t) j s) e ∙ get_or-set_same residences k t s u in
        subst P (sym is) (record { within = it.0; cover = it.1; places = it.2 })
    by_index i v (inr e) =
        let is : get_or (set residences k t) i s ≡ get_or residences i s = get_or-set_other residences k i t s e in
        let long = length-map residences residence_in in
        let differ : x.of.serial ≡ (residence_in (get_or residences i s)).serial → ⊥ = λ d.
        serials_differ (residences_in residences) i k (residence_in s) apart (omega (arith, long)) (omega (arith, long)) e
        (ap (λ (r : ResidenceFor). r.serial) (get_or-map residence_in residences k s (residence_in s) u) ∙ ap (λ (y : ReachedResidence). (residence_in y).serial) (sym at) ∙ own ∙ d
        ∙ sym (ap (λ (r : ResidenceFor). r.serial) (get_or-map residence_in residences i s (residence_in s) v)))
        in
        subst P (sym is) (other_placed lib mapped (get_or residences i s) x (All-get_or (IsPlaced lib mapped) residences i s v all) differ)

-- a page that was not mapped
pub placed_with : (lib : List Parts) (mapped : List Mapped) (residences : List ReachedResidence) (k : ℕ) (s t : ReachedResidence) (p : PageId) (bytes : List ℕ) → All (IsPlaced lib mapped) residences → AreApart (residences_in residences) → k < length residences →
    s ≡ get_or residences k s → residence_in t ≡ residence_in s → t.places ≡ with_place s.places p (length mapped) → IsNumberOf p.object (length (module_of lib (residence_in s).«module»).objects) →
    p.page < pages_of (object_of (module_of lib (residence_in s).«module») p.object) → position (is_mapped_at (residence_in s).serial p) mapped ≡ None →
    All (IsPlaced lib (mapped ++ page_with (residence_in s) p bytes ∷ [])) (set residences k t)
placed_with lib mapped residences k s t p bytes all apart u at same put object within none =
    let Q : ReachedResidence → Type 0 = IsPlaced lib mapped in
    let here : Q s = subst Q (sym at) (All-get_or Q residences k s u all) in
    let has = is_numbered (module_of lib (residence_in s).«module») s.places p here.cover object within in
    let empty : place_in s.places p ≡ None = here.places p.object p.page object within ∙ none in
    placed_first lib mapped residences k s t (page_with (residence_in s) p bytes) all apart u at refl same (rw (has, empty) put)

pub same_number : (a b : ℕ) → (a == b) ≡ true → a ≡ b
same_number a b e = grind (arith, nat_tests)

pub differs : (a b : ℕ) → (a == b) ≡ false → a ≡ b → ⊥
differs a b e u = let same : (a == b) ≡ true = grind (arith, nat_tests) in absurd cc

pub none_passes : {X : Type 0} (p : X → Bool) (xs : List X) (k : ℕ) (d : X) → position p xs ≡ None → k < length xs → p (get_or xs k d) ≡ false
none_passes p [] k d e u = absurd (omega (arith, u))
none_passes p (x ∷ xs) k d e u = by_first (p x) refl (position p xs) refl k u (λ n h v. none_passes p xs n d h v)
  where
    at : cond (p x) (Some 0) (option_map suc (position p xs)) ≡ None
    at = sym (position_cons p x xs) ∙ e

    by_first : (b : Bool) → p x ≡ b → (o : Option ℕ) → position p xs ≡ o → (k : ℕ) → k < length (x ∷ xs) → ((n : ℕ) → position p xs ≡ None → n < length xs → p (get_or xs n d) ≡ false) → p (get_or (x ∷ xs) k d) ≡ false
    by_first true is o h k v later = absurd (let wrong : Some 0 ≡ None = sym (ap (λ b. cond b (Some 0) (option_map suc (position p xs))) is) ∙ at in cc)
    by_first false is (Some j) h k v later =
        absurd (let wrong : Some (suc j) ≡ None = sym (ap (λ b. cond b (Some 0) (option_map suc (position p xs))) is ∙ ap (option_map suc) h) ∙ at in cc)
    by_first false is None h zero v later = is
    by_first false is None h (suc n) v later = later n h (omega (arith, v))

-- ---- places that are taken away

pub cleared_residences : (residences : List ReachedResidence) → residences_in (map without_places residences) ≡ residences_in residences
cleared_residences [] = refl
cleared_residences (s ∷ residences) = ap (λ (rs : List ResidenceFor). residence_in s ∷ rs) (cleared_residences residences)

pub cleared_placed : (lib : List Parts) (mapped : List Mapped) (residences : List ReachedResidence) → All (IsPlaced lib mapped) residences → All (IsPlaced lib []) (map without_places residences)
cleared_placed lib mapped residences all = λ k d u.
    let within : k < length residences = omega (arith, u, length-map residences without_places) in
    let s = get_or residences k d in
    let m = module_of lib (residence_in s).«module» in
    let is = all k d within in
    rw (get_or-map without_places residences k d d within)
    (record {
      within = is.within;
      cover = record {
        objects = length-map s.places cleared ∙ is.cover.objects;
        pages = λ object there.
            let at : object - 1 < length s.places = omega (arith, is.cover.objects, there.0, there.1) in
            ap (λ (row : List (Option ℕ)). length row) (get_or-map cleared s.places (object - 1) [] [] at) ∙ length_none (length (get_or s.places (object - 1) [])) ∙ is.cover.pages object there;
      };
      places = λ o n there inside.
          let at : o - 1 < length s.places = omega (arith, is.cover.objects, there.0, there.1) in
          ap (λ (row : List (Option ℕ)). get_or row n None) (get_or-map cleared s.places (o - 1) [] [] at) ∙ none_of (length (get_or s.places (o - 1) [])) n;
    })

-- ---- what is kept

pub kept_residences : (lib : List Parts) (mapped : List Mapped) (passes : ℕ → Bool) (residences : List ReachedResidence) → AllByRecursion (IsPlaced lib mapped) residences →
    residences_in (filter (λ (s : ReachedResidence). nat_lt (residence_in s).«module» (length lib) && passes (residence_in s).«module») residences) ≡ filter (λ (r : ResidenceFor). passes r.«module») (residences_in residences)
kept_residences lib mapped passes [] all = refl
kept_residences lib mapped passes (s ∷ residences) all =
    ap (λ b. residences_in (cond (b && passes (residence_in s).«module») (s ∷ kept) kept)) (is_less (residence_in s).«module» (length lib) all.0.within) ∙ by_test (passes (residence_in s).«module») (kept_residences lib mapped passes residences all.1)
  where
    kept : List ReachedResidence
    kept = filter (λ (y : ReachedResidence). nat_lt (residence_in y).«module» (length lib) && passes (residence_in y).«module») residences

    rest : List ResidenceFor
    rest = filter (λ (r : ResidenceFor). passes r.«module») (residences_in residences)

    by_test : (b : Bool) → residences_in kept ≡ rest → residences_in (cond b (s ∷ kept) kept) ≡ cond b (residence_in s ∷ rest) rest
    by_test true e = ap (λ (rs : List ResidenceFor). residence_in s ∷ rs) e
    by_test false e = e

pub kept_pages : (residences : List ReachedResidence) (ps : List Mapped) → filter (λ (p : Mapped). list_any (λ (s : ReachedResidence). (residence_in s).serial == p.of.serial) residences) ps ≡ pages_with (residences_in residences) ps
kept_pages residences [] = refl
kept_pages residences (p ∷ ps) =
    ap (λ b. cond b (p ∷ filter (λ (q : Mapped). list_any (λ (s : ReachedResidence). (residence_in s).serial == q.of.serial) residences) ps) (filter (λ (q : Mapped). list_any (λ (s : ReachedResidence). (residence_in s).serial == q.of.serial) residences) ps))
    (sym (any_map (λ (r : ResidenceFor). r.serial == p.of.serial) residence_in residences))
    ∙ ap (λ (xs : List Mapped). cond (list_any (λ (r : ResidenceFor). r.serial == p.of.serial) (residences_in residences)) (p ∷ xs) xs) (kept_pages residences ps)

pub reach_kept : (lib : Library) (e : Eager) (p : Process) → ◌≡◌ {A = ℕ → Bool} (reaches lib (keeping lib e p)) (reaches lib p)
unfolding reaches keeping
reach_kept lib e p = refl
