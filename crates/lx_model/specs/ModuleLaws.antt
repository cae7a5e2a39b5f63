-- What holds of modules that were read, and of libraries of them.
use Rattle.std.specs.Prelude.{◌≡◌, ℕ, ◌<◌, ◌^◌, true, All, Contains, List, length, None, Ok}
use Rattle.std.specs.List.{AllByRecursion}
use Rattle.lx_types.specs.Parts.{page_at, data_at}
use Rattle.lx_types.specs.Sound.{Sound}
use Rattle.lx_types.specs.declared.fix.Fix.{Fix}
use Rattle.lx_types.specs.declared.object.PageId.{PageId}
use Rattle.lx_types.specs.declared.object.PageKind.TheVariants.{Iterated}
use Rattle.lx_types.specs.declared.parts.Parts.{Parts}
use Rattle.lx_model.specs.declared.library.Spot.{Spot}
use Rattle.lx_model.specs.Reading.{fault_of}
use Rattle.lx_model.specs.Iterated.{expansion}
use Rattle.lx_model.specs.Module.{IsRead, is_reference, is_target, targets_in}
use Rattle.lx_model.specs.Library.{module_of}
use Rattle.lx_model.specs.Entries.{target_spot}
use Rattle.lx_model.specs.Reach.{IsFit}
use Rattle.lx_model.specs.Gathering.{IsLibrary}
use Rattle.lx_model.specs.Fixed.{records_of_page, sources_of}

-- A module that was read fits together.
abbrev pub ReadIsSound : Type 0
ReadIsSound = (m : Parts) → IsRead m → Sound m

-- It has a name, and its ordinals are numbers of 16 bits from 1 on.
abbrev pub ReadIsNamed : Type 0
ReadIsNamed = (m : Parts) → IsRead m → (0 < length m.name) × AllByRecursion (λ e. (0 < e.0) × (e.0 < 2 ^ 16)) m.entries

-- The data of its iterated pages gives bytes.
abbrev pub DataExpands : Type 0
DataExpands = (m : Parts) (p : PageId) → IsRead m → (page_at m p).kind ≡ Iterated → (given : List ℕ) × (expansion (data_at m p) ≡ Ok given)

-- The records of its pages have no fault.
abbrev pub RecordsAreGood : Type 0
RecordsAreGood = (m : Parts) (p : PageId) → IsRead m → fault_of (records_of_page m p).end ≡ None

-- The targets of its sources are there.
abbrev pub TargetsAreThere : Type 0
TargetsAreThere = (m : Parts) (p : PageId) → IsRead m → All (λ f. is_target (targets_in m.file) f.target ≡ true) (sources_of m p)

-- Its references are those of its sources: each that lies outside its own objects is listed.
abbrev pub ReferencesAreListed : Type 0
ReferencesAreListed = (m : Parts) (p : PageId) → IsRead m → All (λ f. is_reference f.target ≡ true → Contains m.refs f.target) (sources_of m p)

abbrev pub HasSpot : List Parts → ℕ → Fix → Type 0
HasSpot lib m f = (s : Spot) × (target_spot lib m f.target ≡ Ok s)

-- In a library each source of a module that is fit has a spot.
abbrev pub FitHasSpots : Type 0
FitHasSpots = (lib : List Parts) (m : ℕ) (p : PageId) → IsLibrary lib → m < length lib → IsFit lib m → All (HasSpot lib m) (sources_of (module_of lib m) p)
