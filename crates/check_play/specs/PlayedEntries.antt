-- Entries of commands, as they are played.
use Rattle.std.specs.Prelude.{◌≡◌, true}
use Rattle.load_model.specs.declared.commands.Command.{Command}
use Rattle.load_model.specs.declared.deeds.Entry.{Entry}
use Rattle.load_model.specs.Asks.{ask_in}
use Rattle.load_model.specs.Step.{FitsPlace}
use Rattle.session_model.specs.Merging.{AsksFor}
use Rattle.load_core.specs.BoardState.{BoardState, state_of}
use Rattle.process_view.specs.ProcessViews.{ProcessView}
use Rattle.play_laws.specs.CommandAsks.{names_its_residence}
use Rattle.check_play.specs.Standing.{StandsShown}

-- The entry is for the command, and names a residence that the process of the view reaches, where it names one.
pub record IsPlayable (b : BoardState) (v : ProcessView) (x : Entry) (command : Command) : Type 0 where
  pub stands : StandsShown b v
  pub asks : AsksFor b.library command (ask_in x.deed)
  pub fits : FitsPlace command
  pub reached : names_its_residence b.library (state_of b) v.holding.pid x.deed ≡ true
