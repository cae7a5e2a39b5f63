-- What each kind of command adds.
use Rattle.std.specs.Prelude.{◌≡◌, ℕ, true, List, [], ◌∷◌, ◌++◌, Some, None}
use Rattle.load_model.specs.declared.commands.Place.{Place}
use Rattle.load_model.specs.declared.commands.Command.{Command}
use Rattle.load_model.specs.declared.commands.Command.TheVariants as commands
use Rattle.load_model.specs.declared.commands.Refusal.{Refusal}
use Rattle.load_model.specs.declared.commands.Reply.{Reply}
use Rattle.load_model.specs.declared.commands.Reply.TheVariants as replies
use Rattle.load_model.specs.declared.deeds.Entry.{Entry}
use Rattle.load_model.specs.Modules.{Library, Held}
use Rattle.load_model.specs.State.{Failing, is_among, pids}
use Rattle.load_model.specs.Histories.{Legal}
use Rattle.load_model.specs.Views.{Holding, new_holding, StandsFor}
use Rattle.load_model.specs.ViewAnswers.{view_refusal, view_reply}
use Rattle.session_model.specs.declared.sessions.Line.{Line}
use Rattle.script_laws.specs.Progress.{Progress, line_at, Enters, Touches}

-- At first there is nothing.
abbrev pub ProgressBegins : Type 0
ProgressBegins =
    (lib : Library) (failing : Failing) (contents : Held) (pid : ℕ) → is_among pids pid ≡ true → Progress lib failing contents (new_holding lib pid) [] [] []

-- A command that the view refuses is a line.
abbrev pub RefusedGoesOn : Type 0
RefusedGoesOn =
    (lib : Library) (failing : Failing) (contents : Held) (v : Holding) (h : List Entry) (lines : List Line) (done : List Command) (command : Command)
    (refusal : Refusal) →
    view_refusal lib v command ≡ Some refusal → Progress lib failing contents v h lines done →
    Progress lib failing contents v h (lines ++ line_at h command (replies.Refused refusal) ∷ []) (done ++ command ∷ [])

-- a command that reads what the view has
abbrev pub IsReading : Command → Type 0
IsReading (commands.Peek at) = Unit {0}
IsReading (commands.Query name key) = Unit {0}
IsReading (commands.GetRes name ty id) = Unit {0}
IsReading (commands.Touch at) = ⊥
IsReading (commands.Start name) = ⊥
IsReading (commands.Load name) = ⊥
IsReading (commands.Free name) = ⊥
IsReading (commands.Shared at) = ⊥
IsReading (commands.Write at bytes) = ⊥
IsReading (commands.Debug at bytes) = ⊥
IsReading commands.Exit = ⊥

-- One that the view answers is a line.
abbrev pub ReadGoesOn : Type 0
ReadGoesOn =
    (lib : Library) (failing : Failing) (contents : Held) (v : Holding) (h : List Entry) (lines : List Line) (done : List Command) (command : Command)
    (reply : Reply) →
    IsReading command → view_refusal lib v command ≡ None → view_reply lib v command ≡ Some reply → Progress lib failing contents v h lines done →
    Progress lib failing contents v h (lines ++ line_at h command reply ∷ []) (done ++ command ∷ [])

-- One that had an entry is no line.
abbrev pub EntryGoesOn : Type 0
EntryGoesOn =
    (lib : Library) (failing : Failing) (contents : Held) (v w : Holding) (h k : List Entry) (lines : List Line) (done : List Command) (command : Command) →
    Legal lib failing contents k → StandsFor lib failing contents w k → Enters lib failing contents v w h k command →
    Progress lib failing contents v h lines done →
    Progress lib failing contents w k lines (done ++ command ∷ [])

-- A touch that is accepted is a line.
abbrev pub TouchGoesOn : Type 0
TouchGoesOn =
    (lib : Library) (failing : Failing) (contents : Held) (v w : Holding) (h k : List Entry) (lines : List Line) (done : List Command) (at : Place) →
    Legal lib failing contents k → StandsFor lib failing contents w k → Touches lib v w h k at → Progress lib failing contents v h lines done →
    Progress lib failing contents w k (lines ++ line_at k (commands.Touch at) replies.Fine ∷ []) (done ++ commands.Touch at ∷ [])
