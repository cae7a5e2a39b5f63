-- Residences that join a view after a start or a load.
use Rattle.std.specs.Prelude.{◌≡◌, ◌<◌, ◌≤◌, ℕ, ◌-◌, List, [], ◌++◌, All, map, length, false, slice_index_or}
use Rattle.lx_types.specs.declared.object.PageId.{PageId}
use Rattle.lx_types.specs.declared.parts.Parts.{Parts}
use Rattle.lx_model.specs.Library.{module_of}
use Rattle.page_frames.specs.Residences.{ResidenceFor}
use Rattle.load_model.specs.Views.{mapped_pages}
use Rattle.load_model.specs.TouchedPages.{has_page}
use Rattle.process_view.specs.ProcessViews.{ProcessView, fresh_shown}
use Rattle.process_pages.specs.PageRows.{PagePlaces, HaveNone}
use Rattle.process_pages.specs.ReachedResidences.{AreApart}

-- the rows of modules, in their order, none of which has a page mapped
pub record AreEmpty (lib : List Parts) (modules : List ℕ) (rows : List PagePlaces) : Type 0 where
  pub count : length rows ≡ length modules
  pub none : (k : ℕ) → k < length modules → HaveNone (module_of lib (slice_index_or modules k 0)) (slice_index_or rows k [])

-- the numbers of their modules
abbrev pub modules_of : List ResidenceFor → List ℕ
modules_of rs = map (λ (r : ResidenceFor). r.«module») rs

-- the view with residences more, in its room
abbrev pub with_residences : List ResidenceFor → ProcessView → ProcessView
with_residences rs v = record v {
  holding = record v.holding { residences = map fresh_shown (v.residences ++ rs) };
  residences = v.residences ++ rs;
  residence_room = v.residence_room - length rs;
}

-- A residence of a module of the library of which the view has nothing: no page of it is mapped, and none of its own has
-- its serial number.
pub record IsNewTo (v : ProcessView) (r : ResidenceFor) : Type 0 where
  pub within : r.«module» < length v.library
  pub unmapped : (p : PageId) → has_page (mapped_pages v.holding) r.serial p ≡ false
  pub apart : All (λ old. old.serial ≡ r.serial → ⊥) v.residences

-- Residences that are new to a view, which has room for them.
pub record CanJoin (v : ProcessView) (rs : List ResidenceFor) : Type 0 where
  pub room : length rs ≤ v.residence_room
  pub new : All (IsNewTo v) rs
  pub apart : AreApart rs
