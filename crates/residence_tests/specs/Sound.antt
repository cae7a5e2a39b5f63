-- What the tests keep, so that they may go on.
use Rattle.std.specs.Prelude.{◌≡◌, ℕ, ◌+◌, ◌<◌, false, List, [], All, None, length, map}
use Rattle.load_model.specs.declared.deeds.Fresh.{Fresh}
use Rattle.load_model.specs.Modules.{Library}
use Rattle.load_model.specs.State.{Residence, Eager, is_among}
use Rattle.load_model.specs.Entering.{residence_from}
use Rattle.load_model.specs.ResidenceBases.{Stands}
use Rattle.load_model.specs.Serials.{Rise}
use Rattle.load_model.specs.ProcessCounts.{ProcessCounts}
use Rattle.mod_refs.specs.AllCounts.{AreCountsOfAll, AreKept}

-- The counts are those of a state in which no process but these has started a program.
pub record CountsSound (lib : Library) (rows : List ProcessCounts) (started : List ℕ) : Type 0 where
  pub state : Eager
  pub counts_are : AreCountsOfAll lib state rows
  pub kept : AreKept lib rows
  pub idle : (pid : ℕ) → is_among started pid ≡ false → (state.processes pid).started ≡ None

-- Residences of modules of the library stand by serial numbers that rise from above one up to another. Nothing was written to them:
-- a table of residences keeps no writes.
pub record AllSound (lib : Library) (rs : List Residence) (low high : ℕ) : Type 0 where
  pub within : All (λ r. r.«module» < length lib) rs
  pub bases : All (λ r. Stands lib r.«module» r.bases) rs
  pub unwritten : All (λ r. r.writes ≡ []) rs
  pub rise : Rise low (map (λ r. r.serial) rs) high

-- So do those that begin, after so many serial numbers.
abbrev pub FreshSound : Library → ℕ → List Fresh → Type 0
FreshSound lib serials fresh = AllSound lib (map residence_from fresh) serials (serials + length fresh)
