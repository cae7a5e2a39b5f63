-- What a board keeps beside its state: who reaches what, and the residences that stand, each with the rights to fix
-- its pages that were not given yet, with what its processes share, and with what they wrote to its shared objects.
use Rattle.std.specs.Prelude.{◌≡◌, ℕ, List, not, filter}
use Rattle.std.specs.List.{AllByRecursion}
use Rattle.page_fix.specs.Rights.{PageRights}
use Rattle.page_fix.specs.Fixable.{fixable_pages}
use Rattle.page_frames.specs.Residences.{ResidenceFor, kept_by}
use Rattle.lx_model.specs.Library.{module_of}
use Rattle.load_model.specs.State.{Residence}
use Rattle.load_model.specs.Memory.{bases_seen}
use Rattle.load_model.specs.Histories.{has_fault}
use Rattle.load_model.specs.ProcessCounts.{ProcessCounts}
use Rattle.mod_refs.specs.AllCounts.{AreCountsOfAll}
use Rattle.write_overlay.specs.Layered.{Lays}
use Rattle.residence_table.specs.Residences.{residences, unwritten_residences}
use Rattle.load_core.specs.BoardState.{BoardState, state_of, IsLegal}
use Rattle.load_core.specs.declared.residence_parts.ResidenceParts.{ResidenceParts}

-- the pages of a residence that processes share and that had no fault yet
abbrev pub rights_left : BoardState → Residence → PageRights
rights_left b r = record {
  serial = r.serial;
  left = filter (λ p. not (has_fault b.history r.serial p)) (fixable_pages (module_of b.library r.«module»));
}

-- a residence as its processes share it: the one that the board keeps
abbrev pub shared_as : BoardState → Residence → ResidenceFor
shared_as b r = record {
  library = b.library;
  serial = r.serial;
  «module» = r.«module»;
  bases = bases_seen b.library (state_of b) r.«module»;
  keeper = b.keeper;
}

-- what is handed out of a residence
abbrev pub shown_by : ResidenceParts → ResidenceFor
shown_by parts = kept_by parts.shared.keeper parts.shared.frames

-- A residence is kept with its rights and with what is shared of it.
pub record IsCurrent (b : BoardState) (r : Residence) (rights : PageRights) (shown : ResidenceFor) : Type 0 where
  pub left : rights ≡ rights_left b r
  pub shared : shown ≡ shared_as b r

abbrev pub IsCurrentRow : BoardState → Residence × ResidenceParts → Type 0
IsCurrentRow b s = IsCurrent b s.0 s.1.rights (shown_by s.1)

-- What was written to the residence of the same serial number is laid together beside it.
abbrev pub IsLaid : List Residence → Residence × ResidenceParts → Type 0
IsLaid rs s = AllByRecursion (λ r. r.serial ≡ s.0.serial → Lays s.1.layers r.writes) rs

-- The history is legal, and what is kept is what there is after it.
pub record Keeps (b : BoardState) (all_counts : List ProcessCounts) (table : List (Residence × ResidenceParts)) (serials : ℕ) : Type 0 where
  pub legal : IsLegal b
  pub reached : AreCountsOfAll b.library (state_of b) all_counts
  pub residences_are : residences table ≡ unwritten_residences (state_of b)
  pub given : serials ≡ (state_of b).serials
  pub current : AllByRecursion (IsCurrentRow b) table
  pub laid : AllByRecursion (IsLaid (state_of b).residences) table
