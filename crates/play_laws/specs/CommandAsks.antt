-- What the entry of a command asks, by the refusal of the command.
use Rattle.std.specs.Prelude.{◌≡◌, ℕ, ◌&&◌, Bool, true, false, Option, Some, None, is_none}
use Rattle.load_model.specs.declared.commands.Command.{Command}
use Rattle.load_model.specs.declared.commands.Refusal.{Refusal}
use Rattle.load_model.specs.declared.commands.Refusal.TheVariants.{NotTouched}
use Rattle.load_model.specs.declared.deeds.Deed.{Deed}
use Rattle.load_model.specs.declared.deeds.Deed.TheVariants as deeds
use Rattle.load_model.specs.Modules.{Library}
use Rattle.load_model.specs.State.{Eager}
use Rattle.load_model.specs.Refusals.{refusal_of}
use Rattle.load_model.specs.Asks.{ask_in, may_ask, is_attached}
use Rattle.load_model.specs.Step.{ask_by, FitsPlace}
use Rattle.session_model.specs.Merging.{AsksFor, uses_touched}

-- nothing stands against it but that a page was not touched
abbrev pub is_usable : Option Refusal → Bool
is_usable None = true
is_usable (Some (NotTouched page)) = true
is_usable (Some refusal) = false

-- the process reaches the residence that an entry names, where it names one
abbrev pub names_its_residence : Library → Eager → ℕ → Deed → Bool
names_its_residence lib e pid (deeds.Write serial m object offset bytes) = is_attached lib e pid serial m
names_its_residence lib e pid (deeds.Debug serial m object offset bytes) = is_attached lib e pid serial m
names_its_residence lib e pid (deeds.Shared serial m object offset bytes) = is_attached lib e pid serial m
names_its_residence lib e pid deed = true

-- It may be asked exactly where nothing else stands against the command, and the residence is the one that the process reaches.
-- Then it uses touched pages alone exactly where the command is not refused, and asks what the command asks.
pub record IsAskedBy (lib : Library) (e : Eager) (pid : ℕ) (command : Command) (deed : Deed) : Type 0 where
  pub may : may_ask lib e pid (ask_in deed) ≡ is_usable (refusal_of lib e pid command) && names_its_residence lib e pid deed
  pub touched : may_ask lib e pid (ask_in deed) ≡ true → uses_touched e pid deed ≡ is_none (refusal_of lib e pid command)
  pub asked : may_ask lib e pid (ask_in deed) ≡ true → ask_by lib e pid command ≡ Some (ask_in deed)

-- So it is of each entry of a command, in each state.
abbrev pub EntriesByRefusals : Type 0
EntriesByRefusals =
    (lib : Library) (e : Eager) (pid : ℕ) (command : Command) (deed : Deed) → FitsPlace command → AsksFor lib command (ask_in deed) →
    IsAskedBy lib e pid command deed
