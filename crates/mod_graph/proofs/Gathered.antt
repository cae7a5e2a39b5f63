-- Modules that make a library, and the search for a name that two of them have.
use Rattle.std.proofs.Common.{◌≡◌, ℕ, zero, suc, ◌+◌, ◌-◌, ◌<◌, ◌≤◌, ◌∙◌, List, length, map, Option, Some, None, refl, ap, sym, arith, inl, inr}
use Rattle.std.proofs.lemmas.Bool.{cases_lt, lt-ltb, le-ltb}
use Rattle.std.specs.List.{range_with_len}
use Rattle.lx_types.specs.declared.parts.Parts.{Parts}
use Rattle.lx_model.specs.Reading.{first}
use Rattle.lx_model.specs.declared.library.LibraryRefusal.TheVariants.{TooManyModules}
use Rattle.lx_model.specs.Gathering.{LibraryFault}
use Rattle.mod_graph.specs.Gathering.{name_fault}

pub first_passed : {A : Type 0} (f : ℕ → Option A) (i n : ℕ) → 0 < n → f i ≡ None → first (map f (range_with_len i n)) ≡ first (map f (range_with_len (i + 1) (n - 1)))
first_passed f i zero some none = absurd (omega (arith, some))
first_passed f i (suc n) some none =
    let less : n ≡ suc n - 1 = omega arith in
    rw none (ap (λ k. first (map f (range_with_len (i + 1) k))) less)

pub LibraryFault-many : (mods : List Parts) → 64 < length mods → LibraryFault mods ≡ Some (TooManyModules (length mods))
unfolding LibraryFault
LibraryFault-many mods many = rw (lt-ltb 64 (length mods) many) refl

pub LibraryFault-few : (mods : List Parts) → length mods ≤ 64 → LibraryFault mods ≡ name_fault mods
unfolding LibraryFault
LibraryFault-few mods few = rw (le-ltb 64 (length mods) few) refl

pub never_some : {A : Type 0} (x : A) → Some x ≡ None → ⊥
never_some x is = cc

pub few_accepted : (mods : List Parts) → LibraryFault mods ≡ None → length mods ≤ 64
few_accepted mods accepted = elim (cases_lt 64 (length mods)) [
  | inl many ↦ absurd (never_some (TooManyModules (length mods)) (sym (LibraryFault-many mods many) ∙ accepted))
  | inr few ↦ few
]
