-- The residences that stand, each with what its holder keeps beside it.
use Rattle.std.specs.Prelude.{◌≡◌, ℕ, ◌==◌, Bool, List, [], map, AllPairs}
use Rattle.load_model.specs.State.{Residence, Eager}

-- the residences alone
abbrev pub residences : {T : Type 0} → List (Residence × T) → List Residence
residences rows = map (λ s. s.0) rows

-- it is one of a module, or that of a serial number
abbrev pub is_of_module : {T : Type 0} → ℕ → Residence × T → Bool
is_of_module m s = s.0.«module» == m

abbrev pub has_serial : {T : Type 0} → ℕ → Residence × T → Bool
has_serial serial s = s.0.serial == serial

-- a residence as it stands, whatever was written to it
abbrev pub unwritten : Residence → Residence
unwritten r = record r { writes = [] }

-- so those of a state
abbrev pub unwritten_residences : Eager → List Residence
unwritten_residences e = map unwritten e.residences

-- No two residences have one serial number.
abbrev pub AreOwn : List Residence → Type 0
AreOwn rs = AllPairs (λ a b. a.serial ≡ b.serial → ⊥) rs
