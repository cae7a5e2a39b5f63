-- The fault of a page that a process makes, or that the page had.
use Rattle.std.specs.Prelude.{◌≡◌, ◌<◌, Bool, true, false, length}
use Rattle.lx_types.specs.declared.object.PageId.{PageId}
use Rattle.lx_model.specs.ModuleBytes.{fixed_page}
use Rattle.load_model.specs.Modules.{fixed_bytes}
use Rattle.load_model.specs.Histories.{Follows, has_fault}
use Rattle.load_core.specs.BoardState.{BoardState, with_entry}
use Rattle.page_frames.specs.Residences.{ResidenceFor}
use Rattle.process_view.specs.ProcessViews.{ProcessView, StandsAt, without_room, at_front}
use Rattle.process_view.specs.Deeds.{with_page, fault_of}

-- The page's fault has its entry now, which follows the history, and the view has mapped the page as its fixups leave it, and
-- stands for all that was done.
pub record TookFault (b c : BoardState) (v w : ProcessView) (r : ResidenceFor) (p : PageId) : Type 0 where
  pub board : c ≡ with_entry b (fault_of v r p)
  pub follows : Follows b.library b.failing (fixed_bytes b.library) b.history (fault_of v r p)
  pub view : without_room w ≡ without_room (with_page r p (fixed_page v.library r.«module» r.bases p) (at_front (length c.history) v))
  pub stands : StandsAt c w

-- The page had its fault, and nothing was done; the view was shown all that was done before, and has room for a page more.
pub record HadFault (b c : BoardState) (v w : ProcessView) (r : ResidenceFor) (p : PageId) : Type 0 where
  pub board : c ≡ b
  pub had : has_fault b.history r.serial p ≡ true
  pub view : without_room w ≡ without_room (at_front (length b.history) v)
  pub stands : StandsAt b w
  pub room : 0 < w.page_room

abbrev pub IsFaultTaken : BoardState → BoardState → ProcessView → ProcessView → ResidenceFor → PageId → Bool → Type 0
IsFaultTaken b c v w r p true = TookFault b c v w r p
IsFaultTaken b c v w r p false = HadFault b c v w r p
