-- Residences that a process reaches, their pages that it has mapped, and where each of these stands among all that are mapped.
use Rattle.std.specs.Prelude.{◌≡◌, ◌<◌, ◌==◌, ℕ, List, map, filter, length, true, All, AllPairs}
use Rattle.std.specs.List.{list_any}
use Rattle.lx_types.specs.declared.limits.TheConstants.{PAGE_LEN}
use Rattle.lx_types.specs.declared.object.PageId.{PageId}
use Rattle.lx_types.specs.declared.parts.Parts.{Parts}
use Rattle.lx_model.specs.Library.{module_of}
use Rattle.page_frames.specs.Residences.{ResidenceFor}
use Rattle.load_model.specs.Views.{Mapped}
use Rattle.process_pages.specs.PageRows.{Cover, ArePlaces, without_any}
use Rattle.process_pages.specs.declared.reached_residences.ReachedResidence.{ReachedResidence}

abbrev pub residence_in : ReachedResidence → ResidenceFor
residence_in s = s.residence

abbrev pub residences_in : List ReachedResidence → List ResidenceFor
residences_in residences = map residence_in residences

-- a page of a residence, with bytes
abbrev pub page_with : ResidenceFor → PageId → List ℕ → Mapped
page_with r p bytes = record { of = record { serial = r.serial; page = p }; bytes = bytes }

-- the pages of some residences
abbrev pub pages_with : List ResidenceFor → List Mapped → List Mapped
pages_with rs ps = filter (λ (p : Mapped). list_any (λ (r : ResidenceFor). r.serial == p.of.serial) rs) ps

-- a residence of whose pages no place is known
abbrev pub without_places : ReachedResidence → ReachedResidence
without_places s = record s { places = without_any s.places }

-- A residence is of a module of the library, and each of its pages has its place among those that are mapped.
pub record IsPlaced (lib : List Parts) (mapped : List Mapped) (s : ReachedResidence) : Type 0 where
  pub within : (residence_in s).«module» < length lib
  pub cover : Cover (module_of lib (residence_in s).«module») s.places
  pub places : ArePlaces (module_of lib (residence_in s).«module») (residence_in s).serial s.places mapped

-- no two have one serial number
abbrev pub AreApart : List ResidenceFor → Type 0
AreApart residences = AllPairs (λ a b. a.serial ≡ b.serial → ⊥) residences

-- no page is among them twice
abbrev pub StandOnce : List Mapped → Type 0
StandOnce mapped = AllPairs (λ a b. a.of ≡ b.of → ⊥) mapped

-- Each page is one of a residence among these, and whole, and no page is there twice.
pub record ArePagesOf (rs : List ResidenceFor) (mapped : List Mapped) : Type 0 where
  pub own : All (λ (p : Mapped). list_any (λ (r : ResidenceFor). r.serial == p.of.serial) rs ≡ true) mapped
  pub whole : All (λ (p : Mapped). length p.bytes ≡ PAGE_LEN) mapped
  pub once : StandOnce mapped
