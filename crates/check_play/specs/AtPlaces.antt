-- What stands at a place of a transcript.
use Rattle.std.specs.Prelude.{◌≡◌, ℕ, Bool, true, false, List, Option, Some, None}
use Rattle.load_model.specs.Modules.{fixed_bytes}
use Rattle.load_model.specs.Views.{mapped_pages}
use Rattle.session_model.specs.Merging.{Item}
use Rattle.session_model.specs.MergeLaws.{entries_in}
use Rattle.load_core.specs.BoardState.{BoardState, IsLegal}
use Rattle.process_view.specs.ProcessViews.{ProcessView}
use Rattle.check_model.specs.declared.kinds.CheckKind.{CheckKind}
use Rattle.check_model.specs.declared.kinds.CheckKind.TheVariants as kinds
use Rattle.check_model.specs.Checks.{Judge}
use Rattle.play_laws.specs.MappedPages.{HasMapped}
use Rattle.check_play.specs.Standing.{StandsShown}

-- On the board was done what the entries before a place tell, whoever keeps its residences; objects hold the bytes of the files.
pub record IsBoardAt (j : Judge) (before : List Item) (b : BoardState) : Type 0 where
  pub is : b ≡ record { library = j.lib; failing = j.failing; history = entries_in before; keeper = b.keeper }
  pub contents : j.contents ≡ fixed_bytes j.lib
  pub legal : IsLegal b

-- The view is that of a process, stands for all that was done, and has mapped what the process has touched at the place, and beside
-- that pages of the touch that it does next.
pub record IsViewAt (j : Judge) (before after : List Item) (b : BoardState) (v : ProcessView) (pid : ℕ) : Type 0 where
  pub number : v.holding.pid ≡ pid
  pub stands : StandsShown b v
  pub mapped : HasMapped j before after pid (mapped_pages v.holding)

-- nothing, where the reply is right
abbrev pub fault_unless : Bool → Option CheckKind
fault_unless true = None
fault_unless false = Some kinds.Reply
