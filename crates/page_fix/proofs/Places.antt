-- Places in lists: of the first item that passes a test, of a module in a list of bases, and what stands there.
use Rattle.std.proofs.Common.{◌≡◌, ◌≢◌, ℕ, zero, suc, ◌+◌, ◌<◌, ◌≤◌, ◌==◌, ◌∷◌, ◌++◌, [], get_or, set, replicate, subst, Bool, true, false, not, List, length, Option, Some, None, inl, inr, refl, sym, ◌∙◌, ap, cond, arith}
use Rattle.std.specs.Prelude.{find, position, slice_get, nat_lt, option_and_then, option_map}
use Rattle.std.specs.Option.{option_or}
use Rattle.std.specs.List.{position_or_len}
use Rattle.std.proofs.lemmas.List.{get_or-set_other}
use Rattle.std.proofs.lemmas.List.Folds.{find_at}
use Rattle.std.proofs.lemmas.Grind.{get_or-set_at}
use Rattle.std.proofs.lemmas.Option.{slice_get_past, slice_get-get_or}
use Rattle.std.proofs.lemmas.Bool.{ltb-false, ltb-true, cases_eq, cases_lt}
use Rattle.std.proofs.lemmas.Bool.Decides.{nat_tests}
use Rattle.lx_types.specs.declared.bases.ModBases.{ModBases}
use Rattle.page_fix.specs.Found.{AreFound}

-- ---- the place of the first item of a list that passes a test

pub is_less : (a b : ℕ) → a < b → nat_lt a b ≡ true
is_less a b u = grind (arith, nat_tests)

pub is_not_less : (a b : ℕ) → b ≤ a → nat_lt a b ≡ false
is_not_less a b u = grind (arith, nat_tests)

counted_on : (k n : ℕ) → cond (nat_lt (1 + k) (suc n)) (Some (1 + k)) None ≡ option_map suc (cond (nat_lt k n) (Some k) None)
counted_on k n = elim (cases_lt k n) as (λ _. cond (nat_lt (1 + k) (suc n)) (Some (1 + k)) None ≡ option_map suc (cond (nat_lt k n) (Some k) None)) [
  | inl u ↦
      let more : 1 + k ≡ suc k = omega arith in
      ap (λ b. cond b (Some (1 + k)) None) (is_less (1 + k) (suc n) (omega arith)) ∙ ap (λ (i : ℕ). Some i) more
      ∙ sym (ap (λ b. option_map suc (cond b (Some k) None)) (is_less k n u))
  | inr u ↦
      ap (λ b. cond b (Some (1 + k)) None) (is_not_less (1 + k) (suc n) (omega arith))
      ∙ sym (ap (λ b. option_map suc (cond b (Some k) None)) (is_not_less k n u))
]

module _ {X : Type 0} (p : X → Bool) where
  pub position_cons : (x : X) (xs : List X) → position p (x ∷ xs) ≡ cond (p x) (Some 0) (option_map suc (position p xs))
  position_cons x xs = by_first (p x)
    where
      by_first : (b : Bool) →
          cond (nat_lt (cond (not b) (1 + position_or_len p xs) 0) (suc (length xs))) (Some (cond (not b) (1 + position_or_len p xs) 0)) None ≡
          cond b (Some 0) (option_map suc (position p xs))
      by_first true = ap (λ b. cond b (Some 0) None) (is_less 0 (suc (length xs)) (omega arith))
      by_first false = counted_on (position_or_len p xs) (length xs)

  -- ---- one more at the end

  pub position_new : (xs : List X) (y : X) → position p xs ≡ None → p y ≡ true → position p (xs ++ y ∷ []) ≡ Some (length xs)
  position_new [] y e h = position_cons y [] ∙ ap (λ b. cond b (Some 0) None) h
  position_new (x ∷ xs) y e h = by_first (p x) refl (λ u. position_new xs y u h)
    where
      none_there : (o : Option ℕ) → option_map suc o ≡ None → o ≡ None
      none_there None u = refl
      none_there (Some k) u = absurd cc

      by_first : (b : Bool) → p x ≡ b → (position p xs ≡ None → position p (xs ++ y ∷ []) ≡ Some (length xs)) → position p (x ∷ (xs ++ y ∷ [])) ≡ Some (suc (length xs))
      by_first true is later = absurd (let it : Some 0 ≡ None = sym (position_cons x xs ∙ ap (λ b. cond b (Some 0) (option_map suc (position p xs))) is) ∙ e in cc)
      by_first false is later =
          let rest : option_map suc (position p xs) ≡ None = sym (position_cons x xs ∙ ap (λ b. cond b (Some 0) (option_map suc (position p xs))) is) ∙ e in
          position_cons x (xs ++ y ∷ []) ∙ ap (λ b. cond b (Some 0) (option_map suc (position p (xs ++ y ∷ [])))) is ∙ ap (option_map suc) (later (none_there (position p xs) rest))

  pub position_other : (xs : List X) (y : X) → p y ≡ false → position p (xs ++ y ∷ []) ≡ position p xs
  position_other [] y h = position_cons y [] ∙ ap (λ b. cond b (Some 0) None) h
  position_other (x ∷ xs) y h =
      position_cons x (xs ++ y ∷ []) ∙ ap (λ (o : Option ℕ). cond (p x) (Some 0) (option_map suc o)) (position_other xs y h) ∙ sym (position_cons x xs)

  pub position_stays : (xs : List X) (y : X) (k : ℕ) → position p xs ≡ Some k → position p (xs ++ y ∷ []) ≡ Some k
  position_stays [] y k e = absurd (let it : None ≡ Some k = e in cc)
  position_stays (x ∷ xs) y k e =
      position_cons x (xs ++ y ∷ []) ∙ by_first (p x) k (position p xs) (sym (position_cons x xs) ∙ e) (λ j u. position_stays xs y j u)
    where
      by_first : (b : Bool) (k : ℕ) (o : Option ℕ) → cond b (Some 0) (option_map suc o) ≡ Some k → ((j : ℕ) → o ≡ Some j → position p (xs ++ y ∷ []) ≡ Some j) →
          cond b (Some 0) (option_map suc (position p (xs ++ y ∷ []))) ≡ Some k
      by_first true k o u later = u
      by_first false k (Some j) u later = ap (option_map suc) (later j refl) ∙ u
      by_first false k None u later = absurd cc

-- ---- modules

pub same_module : (a b : ℕ) → a ≡ b → (a == b) ≡ true
same_module a b e = grind (arith, nat_tests)

pub other_module : (a b : ℕ) → a ≢ b → (b == a) ≡ false
other_module a b e = grind (arith, nat_tests)

-- ---- what was noted of where bases stand first

-- the place of one more, where none of its module was noted
noted_first : (mods : List ModBases) (own : ModBases) (m : ℕ) (o : Option ℕ) → position (λ b. b.«module» == m) mods ≡ o → own.«module» ≡ m →
    option_or o (Some (length mods)) ≡ position (λ b. b.«module» == m) (mods ++ own ∷ [])
noted_first mods own m None e is = sym (position_new (λ b. b.«module» == m) mods own e (same_module own.«module» m is))
noted_first mods own m (Some k) e is = sym (position_stays (λ b. b.«module» == m) mods own k e)

pub noted : (mods : List ModBases) (own : ModBases) (places : List (Option ℕ)) → length places ≡ 64 → own.«module» < 64 → AreFound mods places →
    AreFound (mods ++ own ∷ []) (set places own.«module» (option_or (get_or places own.«module» None) (Some (length mods))))
noted mods own places long below all = λ m within.
    let now : Option ℕ = option_or (get_or places own.«module» None) (Some (length mods)) in
    let P : ℕ → Type 0 = λ k. option_or (get_or places k None) (Some (length mods)) ≡ position (λ b. b.«module» == m) (mods ++ own ∷ []) in
    elim (cases_eq m own.«module») as (λ _. get_or (set places own.«module» now) m None ≡ position (λ b. b.«module» == m) (mods ++ own ∷ [])) [
      | inl same ↦
          get_or-set_at places own.«module» m now None same (omega (arith, long, below))
          ∙ subst P same (noted_first mods own m (get_or places m None) (sym (all m within)) (sym same))
      | inr other ↦
          get_or-set_other places own.«module» m now None other ∙ all m within
          ∙ sym (position_other (λ b. b.«module» == m) mods own (other_module m own.«module» other))
    ]

-- bases of a module that the list of places has no room for
pub past_noted : (mods : List ModBases) (own : ModBases) (places : List (Option ℕ)) → 64 ≤ own.«module» → AreFound mods places → AreFound (mods ++ own ∷ []) places
past_noted mods own places past all = λ m within.
    all m within ∙ sym (position_other (λ b. b.«module» == m) mods own (other_module m own.«module» (λ same. omega (arith, past, within, same))))

-- lists of places of which none is noted
abbrev pub absent : Option ℕ
absent = None

pub none_of : (n k : ℕ) → get_or (replicate n absent) k None ≡ None
none_of zero k = refl
none_of (suc n) zero = refl
none_of (suc n) (suc k) = none_of n k

pub none_noted : AreFound [] (replicate 64 absent)
none_noted = λ m within. none_of 64 m

-- ---- what stands at the place at which it was found

module _ {A : Type 0} (p : A → Bool) (xs : List A) where
  found_at : (r : Option ℕ) (b : Bool) → nat_lt (position_or_len p xs) (length xs) ≡ b → cond b (Some (position_or_len p xs)) None ≡ r →
      slice_get xs (position_or_len p xs) ≡ option_and_then (slice_get xs) r
  found_at r true inside e = ap (option_and_then (slice_get xs)) e
  found_at r false outside e = slice_get_past _ _ (ltb-false _ _ outside) ∙ ap (option_and_then (slice_get xs)) e

  -- the first that passes is what stands at the first place that does
  pub find_by_position : (r : Option ℕ) → position p xs ≡ r → find p xs ≡ option_and_then (slice_get xs) r
  find_by_position r e = find_at p xs ∙ found_at r _ refl e

  -- what was found stands in the list, and it is what the search for it gives
  pub stands_there : (i : ℕ) → position p xs ≡ Some i → i < length xs
  stands_there i e = inside (nat_lt (position_or_len p xs) (length xs)) refl e
    where
      inside : (b : Bool) → nat_lt (position_or_len p xs) (length xs) ≡ b → cond b (Some (position_or_len p xs)) None ≡ Some i → i < length xs
      inside true lt e = let same : position_or_len p xs ≡ i = cc in subst (λ k. k < length xs) same (ltb-true _ _ lt)
      inside false ge e = cc

  pub found_there : (i : ℕ) (d : A) → position p xs ≡ Some i → find p xs ≡ Some (get_or xs i d)
  found_there i d e = find_by_position (Some i) e ∙ slice_get-get_or xs i d (stands_there i e)
