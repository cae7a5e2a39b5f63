-- The first of the places in their order that is free is the least.
use Rattle.std.proofs.Common.{◌≡◌, ℕ, zero, suc, ◌+◌, ◌*◌, ◌-◌, ◌/◌, ◌%◌, ◌<◌, ◌≤◌, ◌==◌, Bool, true, false, cond, ◌&&◌, List, map, find, Option, Some, None, refl, sym, ◌∙◌, ap, subst, arith}
use Rattle.std.specs.Prelude.{MatchOption, nat_le}
use Rattle.std.specs.List.{range_with_len}
use Rattle.std.proofs.lemmas.Bool.{eqb-true, eqb-false, leb-true, and_parts}
use Rattle.lx_types.specs.Addresses.{room}
use Rattle.lx_types.specs.declared.limits.TheConstants.{BASE_UNIT}
use Rattle.base_pick.specs.declared.occupied.AddressRange.{AddressRange}
use Rattle.base_pick.specs.Places.{is_place, bases_in}
use Rattle.base_pick.specs.LeastPlaces.{IsLeastPlace, LeastIsFound}
use Rattle.base_pick.proofs.Gaps.{room-unit}

-- ---- the first number of some that passes

pub record Least (p : ℕ → Bool) (f : ℕ → ℕ) (from n base : ℕ) : Type 0 where
  pub passes : p base ≡ true
  pub least : (k : ℕ) → from ≤ k → k < from + n → p (f k) ≡ true → base ≤ f k

first_is : (p : ℕ → Bool) (f : ℕ → ℕ) → ((k l : ℕ) → k ≤ l → f k ≤ f l) → (n from base : ℕ) → find p (map f (range_with_len from n)) ≡ Some base → Least p f from n base
first_is p f rises zero from base e = cc
first_is p f rises (suc n) from base e = step (p (f from)) refl (first_is p f rises n (from + 1) base) e
  where
    step : (b : Bool) → p (f from) ≡ b → (find p (map f (range_with_len (from + 1) n)) ≡ Some base → Least p f (from + 1) n base) →
        cond b (Some (f from)) (find p (map f (range_with_len (from + 1) n))) ≡ Some base → Least p f from (suc n) base
    step true h later e =
        let same : f from ≡ base = cc in
        record { passes = ap p (sym same) ∙ h; least = λ k low high is. subst (λ x. x ≤ f k) same (rises from k low) }
    step false h later e =
        let r : Least p f (from + 1) n base = later e in
        record {
          passes = r.passes;
          least = λ k low high is. other k low high is (k == from) refl r;
        }
      where
        other : (k : ℕ) → from ≤ k → k < from + suc n → p (f k) ≡ true → (b : Bool) → (k == from) ≡ b → Least p f (from + 1) n base → base ≤ f k
        other k low high is true same r =
            let at : k ≡ from = eqb-true k from same in
            let wrong : true ≡ false = sym is ∙ ap (λ x. p (f x)) at ∙ h in
            cc
        other k low high is false apart r =
            let more : k ≡ from → ⊥ = eqb-false k from apart in
            r.least k (omega arith) (omega arith) is

none_is : (p : ℕ → Bool) (f : ℕ → ℕ) (n from : ℕ) → find p (map f (range_with_len from n)) ≡ None → (k : ℕ) → from ≤ k → k < from + n → p (f k) ≡ false
none_is p f zero from e k low high = absurd (let wrong : ⊥ = omega arith in wrong)
none_is p f (suc n) from e k low high = step (p (f from)) refl (none_is p f n (from + 1)) e (k == from) refl
  where
    step : (b : Bool) → p (f from) ≡ b →
        (find p (map f (range_with_len (from + 1) n)) ≡ None → (j : ℕ) → from + 1 ≤ j → j < (from + 1) + n → p (f j) ≡ false) →
        cond b (Some (f from)) (find p (map f (range_with_len (from + 1) n))) ≡ None → (c : Bool) → (k == from) ≡ c → p (f k) ≡ false
    step true h later e c is = cc
    step false h later e true is = ap (λ x. p (f x)) (eqb-true k from is) ∙ h
    step false h later e false is =
        let more : k ≡ from → ⊥ = eqb-false k from is in
        later e k (omega arith) (omega arith)

-- ---- a free place is one of the multiples

pub record Multiple (arena : AddressRange) (place : ℕ) : Type 0 where
  pub number : ℕ
  pub below : number < (arena.to - arena.from) / 65536
  pub is : place ≡ arena.from + number * 65536

apart_by : (from place : ℕ) → from % 65536 ≡ 0 → place % 65536 ≡ 0 → from ≤ place → place ≡ from + ((place - from) / 65536) * 65536
apart_by from place even is low = omega arith

number_below : (from end place : ℕ) → from ≤ place → place + 65536 ≤ end → (place - from) / 65536 < (end - from) / 65536
number_below from end place low high = omega arith

free_is : (arena : AddressRange) (spans : List AddressRange) (size place : ℕ) → arena.from % 65536 ≡ 0 → is_place arena spans size place ≡ true → Multiple arena place
free_is arena spans size place even free =
    let rest : (((place % BASE_UNIT == 0) && nat_le arena.from place) && nat_le (place + room size) arena.to) ≡ true = (and_parts _ _ free).0 in
    let low : arena.from ≤ place = leb-true _ _ (and_parts (place % BASE_UNIT == 0) _ (and_parts _ _ rest).0).1 in
    let fits : place + room size ≤ arena.to = leb-true _ _ (and_parts _ _ rest).1 in
    let is : place % 65536 ≡ 0 = eqb-true _ _ (and_parts (place % BASE_UNIT == 0) _ (and_parts _ _ rest).0).0 in
    let more : 65536 ≤ room size = room-unit size in
    let high : place + 65536 ≤ arena.to = above place (room size) arena.to more fits in
    record {
      number = (place - arena.from) / 65536;
      below = number_below arena.from arena.to place low high;
      is = apart_by arena.from place even is low;
    }
  where
    above : (a b c : ℕ) → 65536 ≤ b → a + b ≤ c → a + 65536 ≤ c
    above a b c h k = omega arith

rises : (from k l : ℕ) → k ≤ l → from + k * BASE_UNIT ≤ from + l * BASE_UNIT
rises from k l h = omega arith

found_is : (arena : AddressRange) (spans : List AddressRange) (size : ℕ) → arena.from % BASE_UNIT ≡ 0 → (r : Option ℕ) → find (is_place arena spans size) (bases_in arena) ≡ r →
    MatchOption r ((other : ℕ) → is_place arena spans size other ≡ false) (IsLeastPlace arena spans size)
found_is arena spans size even None is = λ other. step other (is_place arena spans size other) refl
  where
    step : (other : ℕ) (b : Bool) → is_place arena spans size other ≡ b → is_place arena spans size other ≡ false
    step other false h = h
    step other true h =
        let it : Multiple arena other = free_is arena spans size other even h in
        ap (is_place arena spans size) it.is
        ∙ none_is (is_place arena spans size) (λ k. arena.from + k * BASE_UNIT) ((arena.to - arena.from) / BASE_UNIT) 0 is it.number (omega arith) (below_all it.number _ it.below)
      where
        below_all : (k n : ℕ) → k < n → k < 0 + n
        below_all k n h = omega arith
found_is arena spans size even (Some base) is =
    let r : Least (is_place arena spans size) (λ k. arena.from + k * BASE_UNIT) 0 ((arena.to - arena.from) / BASE_UNIT) base =
    first_is (is_place arena spans size) (λ k. arena.from + k * BASE_UNIT) (rises arena.from) ((arena.to - arena.from) / BASE_UNIT) 0 base is
    in
    record {
      free = r.passes;
      least = λ other free.
          (let it : Multiple arena other = free_is arena spans size other even free in
          subst (λ x. base ≤ x) (sym it.is) (r.least it.number (omega arith) (below_all it.number _ it.below) (ap (is_place arena spans size) (sym it.is) ∙ free)));
    }
  where
    below_all : (k n : ℕ) → k < n → k < 0 + n
    below_all k n h = omega arith

pub least_is_found : LeastIsFound
least_is_found arena spans size even = found_is arena spans size even (find (is_place arena spans size) (bases_in arena)) refl
