-- How commands and entries go together.
use Rattle.std.specs.Prelude.{◌≡◌, ℕ, List, true, Some, None}
use Rattle.load_model.specs.declared.commands.Command.{Command}
use Rattle.load_model.specs.declared.deeds.Entry.{Entry}
use Rattle.load_model.specs.Modules.{Library, Held}
use Rattle.load_model.specs.State.{PageOf, Failing, Eager, pids, is_among}
use Rattle.load_model.specs.Refusals.{refusal_of}
use Rattle.load_model.specs.declared.commands.Ask.{Ask}
use Rattle.load_model.specs.Asks.{deed_of, may_ask}
use Rattle.load_model.specs.Histories.{state_after, Follows}
use Rattle.load_model.specs.Step.{entry, answer_of, ask_by, FitsPlace}

-- What a command asks that is not refused may be asked, and its entry is what the loader does then.
abbrev pub AcceptedMayAsk : Type 0
AcceptedMayAsk =
    (lib : Library) (contents : Held) (e : Eager) (pid : ℕ) (command : Command) (ask : Ask) → FitsPlace command → refusal_of lib e pid command ≡ None →
    ask_by lib e pid command ≡ Some ask → (may_ask lib e pid ask ≡ true) × (answer_of lib contents e pid command ≡ entry (deed_of lib contents e pid ask))

-- the state with other touched pages of each process
abbrev pub retouched : (ℕ → List PageOf) → Eager → Eager
retouched touched e = record e { processes = λ pid. record (e.processes pid) { touched = touched pid } }

-- Whatever the processes touched, the same may be asked, and the same is done.
abbrev pub TouchedIsApart : Type 0
TouchedIsApart =
    (lib : Library) (contents : Held) (e : Eager) (touched : ℕ → List PageOf) (pid : ℕ) (ask : Ask) →
    (may_ask lib (retouched touched e) pid ask ≡ may_ask lib e pid ask) × (deed_of lib contents (retouched touched e) pid ask ≡ deed_of lib contents e pid ask)

-- So, whatever was touched, the entry of such a command follows the history after which it is asked.
abbrev pub AcceptedFollows : Type 0
AcceptedFollows =
    (lib : Library) (failing : Failing) (contents : Held) (h : List Entry) (touched : ℕ → List PageOf) (pid : ℕ) (command : Command) (ask : Ask) →
    is_among pids pid ≡ true →
    FitsPlace command → refusal_of lib (retouched touched (state_after lib failing h)) pid command ≡ None →
    ask_by lib (retouched touched (state_after lib failing h)) pid command ≡ Some ask →
    Follows lib failing contents h (record { pid = pid; deed = deed_of lib contents (state_after lib failing h) pid ask })
