-- What the caller of a command is told.
use Rattle.std.specs.Prelude.{◌≡◌, ℕ, List, Option, Some, None}
use Rattle.load_model.specs.declared.commands.Command.{Command}
use Rattle.load_model.specs.declared.commands.Command.TheVariants as commands
use Rattle.load_model.specs.declared.commands.Reply.{Reply}
use Rattle.load_model.specs.declared.commands.Reply.TheVariants.{Refused}
use Rattle.load_model.specs.declared.commands.Refusal.{Refusal}
use Rattle.load_model.specs.declared.commands.Refusal.TheVariants.{ArenaFull, InitFailed}
use Rattle.load_model.specs.declared.deeds.How.{How}
use Rattle.load_model.specs.declared.deeds.Call.{Call}
use Rattle.load_model.specs.declared.deeds.Fresh.{Fresh}
use Rattle.load_model.specs.declared.deeds.Gone.{Gone}
use Rattle.load_model.specs.declared.deeds.Deed.{Deed}
use Rattle.load_model.specs.declared.deeds.Deed.TheVariants as deeds
use Rattle.load_model.specs.Modules.{Library, Held, number_of}
use Rattle.load_model.specs.State.{Eager}
use Rattle.load_model.specs.Refusals.{refusal_of}
use Rattle.load_model.specs.declared.commands.Ask.{Ask}
use Rattle.load_model.specs.Asks.{deed_of}
use Rattle.load_model.specs.Step.{Answer, entry, steady, meant, answer_of, ask_by, FitsPlace}

-- That it is done, with the number of its entry in the history, from 1; or a reply.
pub data Outcome : Type 0 where
  done : ℕ → Outcome
  told : Reply → Outcome

-- An entry that says why nothing was loaded is a refusal to its caller, which names the entry.
abbrev pub outcome_of_entry : ℕ → Deed → Outcome
outcome_of_entry number (deeds.Full how m of object size) = told (Refused (ArenaFull number of object size))
outcome_of_entry number (deeds.Failed how m by fresh calls gone) = told (Refused (InitFailed number by))
outcome_of_entry number deed = done number

-- of an answer whose entry, where it has one, has this number
abbrev pub outcome_of : ℕ → Answer → Outcome
outcome_of number (entry deed) = outcome_of_entry number deed
outcome_of number (steady reply) = told reply

-- ---- what is told of an entry

-- an entry that does what its command asked
abbrev pub HasDone : Deed → Type 0
HasDone (deeds.Full how m of object size) = ⊥
HasDone (deeds.Failed how m by fresh calls gone) = ⊥
HasDone deed = Unit {0}

-- The caller is told of the entry of this number: why nothing was loaded, exactly where the entry says so; otherwise
-- that it is done.
pub data IsTold (number : ℕ) : Deed → Outcome → Type 0 where
  arena_full : {how : How} {m of object size : ℕ} → IsTold number (deeds.Full how m of object size) (told (Refused (ArenaFull number of object size)))
  init_failed :
      {how : How} {m by : ℕ} {fresh : List Fresh} {calls : List Call} {gone : List Gone} →
      IsTold number (deeds.Failed how m by fresh calls gone) (told (Refused (InitFailed number by)))
  is_done : {deed : Deed} → HasDone deed → IsTold number deed (done number)

-- A command that is refused is told why, and has no entry.
abbrev pub RefusedIsTold : Type 0
RefusedIsTold =
    (lib : Library) (contents : Held) (e : Eager) (pid number : ℕ) (command : Command) (refusal : Refusal) → refusal_of lib e pid command ≡ Some refusal →
    (answer_of lib contents e pid command ≡ steady (Refused refusal)) × (outcome_of number (answer_of lib contents e pid command) ≡ told (Refused refusal))

-- One that is not refused, and asks something, is told of its entry.
abbrev pub AcceptedIsTold : Type 0
AcceptedIsTold =
    (lib : Library) (contents : Held) (e : Eager) (pid number : ℕ) (command : Command) (ask : Ask) → FitsPlace command → refusal_of lib e pid command ≡ None →
    ask_by lib e pid command ≡ Some ask → IsTold number (deed_of lib contents e pid ask) (outcome_of number (answer_of lib contents e pid command))

-- ---- names

-- the module's name in a command
abbrev pub name_in : Command → Option (List ℕ)
name_in (commands.Start name) = Some name
name_in (commands.Load name) = Some name
name_in (commands.Free name) = Some name
name_in (commands.Touch at) = Some at.«module»
name_in (commands.Peek at) = Some at.«module»
name_in (commands.Shared at) = Some at.«module»
name_in (commands.Write at bytes) = Some at.«module»
name_in (commands.Debug at bytes) = Some at.«module»
name_in (commands.Query name key) = Some name
name_in (commands.GetRes name ty id) = Some name
name_in commands.Exit = None

-- The name in a command that is not refused means a module: so what it is taken to mean is that one.
abbrev pub NamesAreKnown : Type 0
NamesAreKnown =
    (lib : Library) (e : Eager) (pid : ℕ) (command : Command) (name : List ℕ) → refusal_of lib e pid command ≡ None → name_in command ≡ Some name →
    number_of lib name ≡ Some (meant lib name)
