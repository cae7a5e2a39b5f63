-- What a view stands for with one page more.
use Rattle.std.specs.Prelude.{◌≡◌, ◌<◌, ℕ, true, false, length, slice_index_or}
use Rattle.lx_types.specs.Object.{class_of}
use Rattle.lx_types.specs.declared.object.PageId.{PageId}
use Rattle.lx_model.specs.ModuleBytes.{fixed_page}
use Rattle.page_frames.specs.Residences.{ResidenceFor}
use Rattle.load_model.specs.Modules.{object_at}
use Rattle.load_model.specs.Asks.{is_own}
use Rattle.load_model.specs.Histories.{has_fault}
use Rattle.load_core.specs.BoardState.{BoardState, IsLegal}
use Rattle.process_view.specs.ProcessViews.{ProcessView, StandsAt}
use Rattle.process_view.specs.Deeds.{CanMap, with_page}

-- A page of one of its residences that it had not mapped, as its fixups leave it, may be mapped where it is a private one
-- or had its fault: the view stands for the same history with it.
abbrev pub PagesStand : Type 0
PagesStand =
    (b : BoardState) (v : ProcessView) (k : ℕ) (r : ResidenceFor) (p : PageId) → IsLegal b → StandsAt b v → k < length v.residences →
    r ≡ slice_index_or v.residences k r → CanMap v r p →
    (is_own (class_of (object_at v.library r.«module» p.object)) ≡ false → has_fault b.history r.serial p ≡ true) →
    StandsAt b (with_page r p (fixed_page v.library r.«module» r.bases p) v)
