-- What accounts of processes say together, and how one grows.
use Rattle.std.specs.Prelude.{◌≡◌, ℕ, ◌+◌, ◌≤◌, ◌==◌, false, List, [], ◌∷◌, ◌++◌, length, map, Some, slice_get, IsTrue}
use Rattle.std.specs.List.{AllByRecursion}
use Rattle.load_model.specs.declared.commands.Place.{Place}
use Rattle.load_model.specs.declared.commands.Command.{Command}
use Rattle.load_model.specs.declared.commands.Command.TheVariants.{Touch}
use Rattle.load_model.specs.declared.commands.Reply.TheVariants.{Fine}
use Rattle.load_model.specs.declared.deeds.Entry.{Entry}
use Rattle.load_model.specs.Modules.{Library, Held}
use Rattle.load_model.specs.State.{Failing}
use Rattle.load_model.specs.Asks.{ask_in}
use Rattle.load_model.specs.Step.{steady, answer_of}
use Rattle.session_model.specs.declared.sessions.Line.{Line}
use Rattle.session_model.specs.declared.sessions.Script.{Script}
use Rattle.session_model.specs.declared.sessions.ScriptLines.{ScriptLines}
use Rattle.session_model.specs.Merging.{AsksFor, is_fault, touch_follows, EntryReplies, numbers_of, Merge}
use Rattle.merge_laws.specs.Accounts.{own_items, own_state, Account}
use Rattle.merge_laws.specs.MidTouch.{touch_line, IsFaultFor, AccountInTouch}

-- ---- of all processes

-- The accounts that all processes give over one history make a merge of it: each is of a whole script and all lines
-- of its process, there are lines for each script under its number, and entries of no other process.
abbrev pub AccountsMerge : Type 0
AccountsMerge =
    (lib : Library) (failing : Failing) (contents : Held) (h : List Entry) (s : List ScriptLines) (scripts : List Script) →
    numbers_of s ≡ map (λ script. script.pid) scripts → AllByRecursion (λ (x : Entry). (1 ≤ x.pid) × (x.pid ≤ length scripts)) h →
    ((i : ℕ) (lines : ScriptLines) (script : Script) → slice_get s i ≡ Some lines → slice_get scripts i ≡ Some script →
    Account lib failing contents (1 + i) h lines.lines script.commands) →
    Merge lib failing contents h s scripts

-- ---- of one process, an item more

-- A process that has done nothing has this to say of the empty history.
abbrev pub AccountBegins : Type 0
AccountBegins = (lib : Library) (failing : Failing) (contents : Held) (pid : ℕ) → Account lib failing contents pid [] [] []

-- After an entry of another process its account stands.
abbrev pub OthersEntryStays : Type 0
OthersEntryStays =
    (lib : Library) (failing : Failing) (contents : Held) (pid : ℕ) (h : List Entry) (lines : List Line) (done : List Command) (x : Entry) →
    (pid == x.pid) ≡ false →
    Account lib failing contents pid h lines done → Account lib failing contents pid (h ++ x ∷ []) lines done

-- An entry of its own, no fault, adds the command that asks for it.
abbrev pub OwnEntryAdds : Type 0
OwnEntryAdds =
    (lib : Library) (failing : Failing) (contents : Held) (pid : ℕ) (h : List Entry) (lines : List Line) (done : List Command) (x : Entry)
    (command : Command) → x.pid ≡ pid →
    is_fault x.deed ≡ false → AsksFor lib command (ask_in x.deed) → EntryReplies lib contents (own_state lib failing pid h lines) x →
    Account lib failing contents pid h lines done → Account lib failing contents pid (h ++ x ∷ []) lines (done ++ command ∷ [])

-- A line at the end of the history adds its command.
abbrev pub OwnLineAdds : Type 0
OwnLineAdds =
    (lib : Library) (failing : Failing) (contents : Held) (pid : ℕ) (h : List Entry) (lines : List Line) (done : List Command) (l : Line) → l.front ≡ length h →
    IsTrue (touch_follows lib failing (own_items pid h lines) pid l.command l.reply) →
    answer_of lib contents (own_state lib failing pid h lines) pid l.command ≡ steady l.reply →
    Account lib failing contents pid h lines done → Account lib failing contents pid h (lines ++ l ∷ []) (done ++ l.command ∷ [])

-- ---- a touch that makes faults

-- It begins with what was said so far.
abbrev pub TouchBegins : Type 0
TouchBegins =
    (lib : Library) (failing : Failing) (contents : Held) (pid : ℕ) (at : Place) (h : List Entry) (lines : List Line) (done : List Command) →
    Account lib failing contents pid h lines done → AccountInTouch lib failing contents pid at h lines done

-- Others go on meanwhile.
abbrev pub TouchWaits : Type 0
TouchWaits =
    (lib : Library) (failing : Failing) (contents : Held) (pid : ℕ) (at : Place) (h : List Entry) (lines : List Line) (done : List Command) (x : Entry) →
    (pid == x.pid) ≡ false →
    AccountInTouch lib failing contents pid at h lines done → AccountInTouch lib failing contents pid at (h ++ x ∷ []) lines done

-- A fault of its own is one for this touch.
abbrev pub TouchFaults : Type 0
TouchFaults =
    (lib : Library) (failing : Failing) (contents : Held) (pid : ℕ) (at : Place) (h : List Entry) (lines : List Line) (done : List Command) (x : Entry) →
    x.pid ≡ pid →
    IsFaultFor lib (own_state lib failing pid h lines) pid at x.deed → EntryReplies lib contents (own_state lib failing pid h lines) x →
    AccountInTouch lib failing contents pid at h lines done → AccountInTouch lib failing contents pid at (h ++ x ∷ []) lines done

-- The accepted touch ends it: all faults that waited led to it.
abbrev pub TouchEnds : Type 0
TouchEnds =
    (lib : Library) (failing : Failing) (contents : Held) (pid : ℕ) (at : Place) (h : List Entry) (lines : List Line) (done : List Command) →
    IsTrue (touch_follows lib failing (own_items pid h lines) pid (Touch at) Fine) →
    answer_of lib contents (own_state lib failing pid h lines) pid (Touch at) ≡ steady Fine →
    AccountInTouch lib failing contents pid at h lines done →
    Account lib failing contents pid h (lines ++ touch_line (length h) at ∷ []) (done ++ Touch at ∷ [])

-- ---- a history that goes on without the process

-- What it said of a prefix it says of the whole.
abbrev pub AccountGoesOn : Type 0
AccountGoesOn =
    (lib : Library) (failing : Failing) (contents : Held) (pid : ℕ) (h more : List Entry) (lines : List Line) (done : List Command) →
    AllByRecursion (λ (x : Entry). (pid == x.pid) ≡ false) more → Account lib failing contents pid h lines done →
    Account lib failing contents pid (h ++ more) lines done

-- So does one that is touching a place.
abbrev pub TouchGoesOn : Type 0
TouchGoesOn =
    (lib : Library) (failing : Failing) (contents : Held) (pid : ℕ) (at : Place) (h more : List Entry) (lines : List Line) (done : List Command) →
    AllByRecursion (λ (x : Entry). (pid == x.pid) ≡ false) more → AccountInTouch lib failing contents pid at h lines done →
    AccountInTouch lib failing contents pid at (h ++ more) lines done
