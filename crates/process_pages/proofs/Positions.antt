-- Positions of items in lists: of a page's place in a row, and of the residence of a module.
use Rattle.std.proofs.Common.{◌≡◌, ℕ, zero, suc, ◌+◌, ◌-◌, ◌<◌, List, [], length, Option, None, get_or, replicate, inl, inr, refl, ap, ◌∙◌, arith, ◌≤◌, ◌||◌, Bool, true, false, cond, ◌∷◌, ◌++◌, map, Some, option_map, sym, ◌≢◌, ◌==◌, set, subst, get_or-set_other}
use Rattle.process_pages.proofs.Words.{AreRight, At, cases_eq, cases_lt, find, get_or_past, HaveNone, is_some, IsRight, KnownPosition, list_any}
use Rattle.process_pages.proofs.Words.{Nowhere, object_of, PagePlaces, pages_of, Parts, place_in, position, ReachedResidence}
use Rattle.process_pages.proofs.Words.{residence_in, ResidenceFor, residences_in, slice_get, Unknown}
use Rattle.std.proofs.lemmas.Grind.{get_or-set_at}
pub use Rattle.page_fix.proofs.Places.{absent, is_less, is_not_less, none_of, position_cons, position_new, position_other, position_stays, same_module, other_module}

-- ---- rows of numbers that are not there

pub length_none : (n : ℕ) → length (replicate n absent) ≡ n
length_none zero = refl
length_none (suc n) = ap suc (length_none n)

abbrev pub cleared : List (Option ℕ) → List (Option ℕ)
cleared row = replicate (length row) None

pub empty_rows : (m : Parts) (rows : PagePlaces) → length rows ≡ length m.objects → ((k : ℕ) → k < length rows → get_or rows k [] ≡ replicate (pages_of (object_of m (k + 1))) None) → HaveNone m rows
empty_rows m rows long each = record {
  cover = record {
    objects = long;
    pages = λ object is.
        let at : object - 1 < length rows = omega (arith, is.0, is.1) in
        let whole : object - 1 + 1 ≡ object = omega (arith, is.0) in
        ap length (each (object - 1) at) ∙ length_none (pages_of (object_of m (object - 1 + 1))) ∙ ap (λ (o : ℕ). pages_of (object_of m o)) whole;
  };
  none = λ p. elim (cases_lt (p.object - 1) (length rows)) as (λ _. place_in rows p ≡ None) [
    | inl within ↦ ap (λ (row : List (Option ℕ)). get_or row p.page None) (each (p.object - 1) within) ∙ none_of (pages_of (object_of m (p.object - 1 + 1))) p.page
    | inr past ↦ ap (λ (row : List (Option ℕ)). get_or row p.page None) (get_or_past rows (p.object - 1) [] past)
  ];
}

-- ---- the place of the first item of a list that passes a test

module _ {X : Type 0} (p : X → Bool) where
  some_later : (b : Bool) (o : Option ℕ) → is_some (cond b (Some 0) (option_map suc o)) ≡ (b || is_some o)
  some_later true o = refl
  some_later false (Some k) = refl
  some_later false None = refl

  pub any_is_position : (xs : List X) → list_any p xs ≡ is_some (position p xs)
  any_is_position [] = refl
  any_is_position (x ∷ xs) = ap (λ b. p x || b) (any_is_position xs) ∙ sym (some_later (p x) (position p xs)) ∙ ap is_some (sym (position_cons p x xs))

  -- ---- items that pass alike

  pub position_kept : (f : X → X) → ((x : X) → p (f x) ≡ p x) → (xs : List X) → position p (map f xs) ≡ position p xs
  position_kept f h [] = refl
  position_kept f h (x ∷ xs) =
      position_cons p (f x) (map f xs) ∙ ap (λ b. cond b (Some 0) (option_map suc (position p (map f xs)))) (h x)
      ∙ ap (λ (o : Option ℕ). cond (p x) (Some 0) (option_map suc o)) (position_kept f h xs) ∙ sym (position_cons p x xs)

  -- ---- what is there

  abbrev pub at_place : List X → Option ℕ → Option X
  at_place xs None = None
  at_place xs (Some k) = slice_get xs k

  pub found_at_place : (xs : List X) → find p xs ≡ at_place xs (position p xs)
  found_at_place [] = refl
  found_at_place (x ∷ xs) = by_first (p x) (position p xs) (found_at_place xs) ∙ ap (at_place (x ∷ xs)) (sym (position_cons p x xs))
    where
      by_first : (b : Bool) (o : Option ℕ) → find p xs ≡ at_place xs o → cond b (Some x) (find p xs) ≡ at_place (x ∷ xs) (cond b (Some 0) (option_map suc o))
      by_first true o e = refl
      by_first false None e = e
      by_first false (Some k) e = e

-- the test of what items are mapped to
pub position_map : {X Y : Type 0} (p : Y → Bool) (f : X → Y) (xs : List X) → position p (map f xs) ≡ position (λ x. p (f x)) xs
position_map p f [] = refl
position_map p f (x ∷ xs) = position_cons p (f x) (map f xs) ∙ ap (λ (o : Option ℕ). cond (p (f x)) (Some 0) (option_map suc o)) (position_map p f xs) ∙ sym (position_cons (λ y. p (f y)) x xs)

-- ---- what is told of where residences stand, once one more joined

pub one_more : (residences : List ReachedResidence) (s : ReachedResidence) → residences_in (residences ++ s ∷ []) ≡ residences_in residences ++ residence_in s ∷ []
one_more [] s = refl
one_more (x ∷ xs) s = ap (λ rs. residence_in x ∷ rs) (one_more xs s)

-- ---- one more

-- the module of the residence that joined
pub first_right : (r : ResidenceFor) (rs : List ResidenceFor) → IsRight Nowhere r.«module» rs → position (λ (x : ResidenceFor). x.«module» == r.«module») (rs ++ r ∷ []) ≡ Some (length rs)
first_right r rs is = position_new (λ (x : ResidenceFor). x.«module» == r.«module») rs r is (same_module r.«module» r.«module» refl)

pub found_right : (r : ResidenceFor) (rs : List ResidenceFor) (k : ℕ) → IsRight (At k) r.«module» rs → IsRight (At k) r.«module» (rs ++ r ∷ [])
found_right r rs k is = position_stays (λ (x : ResidenceFor). x.«module» == r.«module») rs r k is

-- another module
still_right : (s : KnownPosition) (m : ℕ) (r : ResidenceFor) (rs : List ResidenceFor) → m ≢ r.«module» → IsRight s m rs → IsRight s m (rs ++ r ∷ [])
still_right Nowhere m r rs other is = position_other (λ (x : ResidenceFor). x.«module» == m) rs r (other_module m r.«module» other) ∙ is
still_right (At k) m r rs other is = position_stays (λ (x : ResidenceFor). x.«module» == m) rs r k is
still_right Unknown m r rs other is = tt

pub joined_right : (ss : List KnownPosition) (s : KnownPosition) (r : ResidenceFor) (rs : List ResidenceFor) → r.«module» < length ss → AreRight ss rs → IsRight s r.«module» (rs ++ r ∷ []) → AreRight (set ss r.«module» s) (rs ++ r ∷ [])
joined_right ss s r rs within all is = λ m.
    let S : KnownPosition → Type 0 = λ x. IsRight x m (rs ++ r ∷ []) in
    let M : ℕ → Type 0 = λ k. IsRight s k (rs ++ r ∷ []) in
    elim (cases_eq m r.«module») as (λ _. IsRight (get_or (set ss r.«module» s) m Unknown) m (rs ++ r ∷ [])) [
      | inl same ↦ subst S (sym (get_or-set_at ss r.«module» m s Unknown same within)) (subst M (sym same) is)
      | inr other ↦ subst S (sym (get_or-set_other ss r.«module» m s Unknown other)) (still_right (get_or ss m Unknown) m r rs other (all m))
    ]

pub past_right : (ss : List KnownPosition) (r : ResidenceFor) (rs : List ResidenceFor) → length ss ≤ r.«module» → AreRight ss rs → AreRight ss (rs ++ r ∷ [])
past_right ss r rs past all = λ m.
    let S : KnownPosition → Type 0 = λ x. IsRight x m (rs ++ r ∷ []) in
    elim (cases_eq m r.«module») as (λ _. IsRight (get_or ss m Unknown) m (rs ++ r ∷ [])) [
      | inl same ↦ subst S (sym (get_or_past ss m Unknown (omega (arith, past, same)))) tt
      | inr other ↦ still_right (get_or ss m Unknown) m r rs other (all m)
    ]

-- ---- none

pub none_right : (n k m : ℕ) → IsRight (get_or (replicate n Nowhere) k Unknown) m []
none_right zero k m = tt
none_right (suc n) zero m = refl
none_right (suc n) (suc k) m = none_right n k m
