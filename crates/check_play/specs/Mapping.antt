-- Pages that a view maps, in a residence that its process reaches.
use Rattle.std.specs.Prelude.{◌≡◌, ℕ, ◌<◌, ◌^◌, ◌++◌, not, true, List, length, map, slice_index_or}
use Rattle.std.specs.List.{list_all}
use Rattle.lx_types.specs.Object.{class_of, pages_of}
use Rattle.lx_types.specs.Parts.{object_of}
use Rattle.lx_types.specs.Sound.{IsNumberOf}
use Rattle.lx_types.specs.declared.object.PageId.{PageId}
use Rattle.lx_model.specs.Library.{module_of}
use Rattle.page_fix.specs.Fixable.{is_fixable}
use Rattle.page_frames.specs.Residences.{ResidenceFor}
use Rattle.load_model.specs.Modules.{object_at}
use Rattle.load_model.specs.State.{PageOf}
use Rattle.load_model.specs.Memory.{page}
use Rattle.load_model.specs.Asks.{is_own}
use Rattle.load_model.specs.Touched.{SamePages}
use Rattle.load_model.specs.Views.{mapped_pages}
use Rattle.load_core.specs.BoardState.{BoardState, IsLegal}
use Rattle.merge_laws.specs.OwnStates.{is_fixed}
use Rattle.process_view.specs.ProcessViews.{ProcessView}
use Rattle.check_play.specs.Standing.{StandsShown}

-- the k-th residence that the process reaches
abbrev pub residence_at : ProcessView → ℕ → ResidenceFor → ResidenceFor
residence_at v k d = slice_index_or v.residences k d

-- A page of a residence that the process reaches: the module has it; all processes share it, or it is the process's own.
pub record IsPageIn (v : ProcessView) (k : ℕ) (p : PageId) : Type 0 where
  pub residence : k < length v.residences
  pub object : (d : ResidenceFor) → IsNumberOf p.object (length (module_of v.library (residence_at v k d).«module»).objects)
  pub page : (d : ResidenceFor) → p.page < pages_of (object_of (module_of v.library (residence_at v k d).«module») p.object)
  pub small : p.page < 2 ^ 20
  pub library : (d : ResidenceFor) → (residence_at v k d).library ≡ v.library
  pub shared : (d : ResidenceFor) → is_fixable (module_of v.library (residence_at v k d).«module») p
      ≡ not (is_own (class_of (object_at v.library (residence_at v k d).«module» p.object)))

-- pages of an object of a residence, by their numbers
abbrev pub pages_in : ResidenceFor → ℕ → List ℕ → List PageOf
pages_in r object ns = map (λ n. record { serial = r.serial; page = page object n }) ns

-- each of them is a private one, or had its fault
abbrev pub AreFixedOn : BoardState → ResidenceFor → ℕ → List ℕ → Type 0
AreFixedOn b r object ns = list_all (λ n. is_fixed b.library b.history r.serial r.«module» (page object n)) ns ≡ true

-- A view has mapped them as well, and nothing else has changed. It stands for a board as before, where each of them is a private one
-- or had its fault there.
pub record HasMore (v w : ProcessView) (r : ResidenceFor) (object : ℕ) (ns : List ℕ) : Type 0 where
  pub library : w.library ≡ v.library
  pub residences : w.residences ≡ v.residences
  pub holding : w.holding ≡ record v.holding { mapped = w.holding.mapped }
  pub mapped : SamePages (mapped_pages w.holding) (mapped_pages v.holding ++ pages_in r object ns)
  pub stands : (b : BoardState) → IsLegal b → AreFixedOn b r object ns → StandsShown b v → StandsShown b w
