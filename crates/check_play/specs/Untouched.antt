-- Shared bytes that a process reads whose pages it has not touched.
use Rattle.std.specs.Prelude.{◌≡◌, ℕ, true, Some}
use Rattle.lx_types.specs.declared.object.PageId.{PageId}
use Rattle.load_model.specs.declared.commands.Command.{Command}
use Rattle.load_model.specs.declared.commands.Refusal.TheVariants.{NotTouched}
use Rattle.load_model.specs.TouchedPages.{has_page}
use Rattle.load_model.specs.Views.{mapped_pages}
use Rattle.load_model.specs.ViewAnswers.{view_refusal}
use Rattle.load_core.specs.BoardState.{BoardState, state_of}
use Rattle.page_frames.specs.Residences.{ResidenceFor}
use Rattle.process_view.specs.ProcessViews.{ProcessView}
use Rattle.check_play.specs.Standing.{StandsShown}

-- the view refuses the command for a page that the process has not touched
abbrev pub IsUntouched : ProcessView → Command → Type 0
IsUntouched v command = (n : ℕ) × (view_refusal v.library v.holding command ≡ Some (NotTouched n))

-- Nothing but faults was done, after which the state is the same; the view stands for all that was done, and has mapped all that it
-- had.
pub record IsSameState (b c : BoardState) (v w : ProcessView) : Type 0 where
  pub board : c.library ≡ b.library
  pub state : state_of c ≡ state_of b
  pub stands : StandsShown c w
  pub library : w.library ≡ v.library
  pub residences : w.residences ≡ v.residences
  pub holding : w.holding ≡ record v.holding { mapped = w.holding.mapped; front = w.holding.front }
  pub mapped : (serial : ℕ) (p : PageId) → has_page (mapped_pages v.holding) serial p ≡ true → has_page (mapped_pages w.holding) serial p ≡ true

-- a page of a residence is mapped so
pub record IsMappedSo (b c : BoardState) (v w : ProcessView) (r : ResidenceFor) (p : PageId) : Type 0 where
  pub same : IsSameState b c v w
  pub there : has_page (mapped_pages w.holding) r.serial p ≡ true
