-- What a view answers to a command by itself.
use Rattle.std.specs.Prelude.{◌≡◌, ◌↔◌, List, Option, Some, None}
use Rattle.load_model.specs.declared.commands.Command.{Command}
use Rattle.load_model.specs.declared.commands.Refusal.{Refusal}
use Rattle.load_model.specs.declared.commands.Reply.{Reply}
use Rattle.load_model.specs.declared.commands.Reply.TheVariants.{Refused}
use Rattle.load_model.specs.Modules.{Library}
use Rattle.load_model.specs.Views.{Holding}
use Rattle.load_model.specs.Step.{steady, answer_of}
use Rattle.load_model.specs.ViewAnswers.{view_refusal, view_reply}
use Rattle.session_model.specs.Merging.{Item}
use Rattle.check_model.specs.Checks.{Judge, state_at}
use Rattle.check_core.specs.PlaceStates.{StandsAtPlace}

-- a refusal, or else this
abbrev pub refused_or : Option Refusal → Option Reply → Option Reply
refused_or None reply = reply
refused_or (Some refusal) reply = Some (Refused refusal)

-- that it is refused, or what the view replies; nothing where the command has an entry
abbrev pub view_answer : Library → Holding → Command → Option Reply
view_answer lib v command = refused_or (view_refusal lib v command) (view_reply lib v command)

-- A view that stands for the history before a place, and has mapped what its process has touched there, answers what the loader
-- answers at the place, where that is no entry.
abbrev pub RepliesAtPlaces : Type 0
RepliesAtPlaces =
    (j : Judge) (before : List Item) (v : Holding) (command : Command) (reply : Reply) → StandsAtPlace j before v →
    (view_answer j.lib v command ≡ Some reply) ↔ (answer_of j.lib j.contents (state_at j before) v.pid command ≡ steady reply)
