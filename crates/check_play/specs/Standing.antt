-- What stands after a history, and what is found there.
use Rattle.std.specs.Prelude.{Bool, List, length}
use Rattle.std.specs.List.{list_all}
use Rattle.load_model.specs.declared.commands.Place.{Place}
use Rattle.load_model.specs.declared.deeds.Entry.{Entry}
use Rattle.load_model.specs.Modules.{Library}
use Rattle.load_model.specs.State.{Residence}
use Rattle.load_model.specs.Memory.{page, pages_over}
use Rattle.load_model.specs.Histories.{state_after}
use Rattle.load_core.specs.BoardState.{BoardState, state_of, entry_of}
use Rattle.load_model.specs.declared.commands.Command.{Command}
use Rattle.load_model.specs.Outcomes.{Outcome}
use Rattle.process_view.specs.ProcessViews.{ProcessView, StandsAt, at_front}
use Rattle.process_view.specs.Deeds.{Did}
use Rattle.merge_laws.specs.OwnStates.{is_fixed}
use Rattle.check_core.specs.FaultedHistories.{AreFaultsOf}
use Rattle.standing_serials.specs.Standing.{AreSerialsOf}
use Rattle.check_play.specs.declared.standing.Standing.{Standing}
use Rattle.check_play.specs.declared.standing.AttachedResidence.{AttachedResidence}

-- What is kept beside the board is that of its history.
pub record IsStanding (s : Standing) : Type 0 where
  pub serials : AreSerialsOf s.board.library (state_of s.board) s.serials
  pub faulted : AreFaultsOf s.faulted s.board.history

-- It was that of the history before the last entry.
pub record StoodBefore (s : Standing) (h : List Entry) : Type 0 where
  pub serials : AreSerialsOf s.board.library (state_after s.board.library s.board.failing h) s.serials
  pub faulted : AreFaultsOf s.faulted h

abbrev pub attached_of : Residence → AttachedResidence
attached_of r = record { serial = r.serial; «module» = r.«module» }

-- each page of a place in a residence is a private one, or had its fault
abbrev pub are_fixed_in : Library → List Entry → Place → AttachedResidence → Bool
are_fixed_in lib h at residence = list_all (λ n. is_fixed lib h residence.serial residence.«module» (page at.object n)) (pages_over at.offset at.len)

-- the view stands for all that was done, once it is shown it
abbrev pub StandsShown : BoardState → ProcessView → Type 0
StandsShown b v = StandsAt b (at_front (length b.history) v)

-- The command has its entry, which follows the history, and the view stands for all of it.
pub record IsEntryDone (b c : BoardState) (v w : ProcessView) (command : Command) : Type 0 where
  pub outcome : Outcome
  pub did : Did b c (at_front (length b.history) v) w command outcome

-- that entry
abbrev pub made_entry : {c : BoardState} {w : ProcessView} {command : Command} → (b : BoardState) (v : ProcessView) → IsEntryDone b c v w command → Entry
made_entry b v done = entry_of b v.holding.pid done.did.ask
