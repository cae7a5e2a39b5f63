-- A history and the steady lines of each process, merged: what happened, in one order.
use Rattle.std.specs.Prelude.{◌≡◌, ℕ, ◌≤◌, ◌==◌, ◌&&◌, ◌||◌, not, Bool, true, false, List, [], ◌∷◌, ◌++◌, length, map, filter, find, fold, flat_map, Option, Some, None, is_none, IsTrue}
use Rattle.std.specs.List.{list_any, list_all, enumerate_from, AllByRecursion}
use Rattle.lx_types.specs.Object.{class_of}
use Rattle.lx_types.specs.declared.object.PageId.{PageId}
use Rattle.load_model.specs.declared.commands.Place.{Place}
use Rattle.load_model.specs.declared.commands.Command.{Command}
use Rattle.load_model.specs.declared.commands.Command.TheVariants as commands
use Rattle.load_model.specs.declared.commands.Reply.{Reply}
use Rattle.load_model.specs.declared.commands.Reply.TheVariants as replies
use Rattle.load_model.specs.declared.deeds.How.TheVariants as ways
use Rattle.load_model.specs.declared.deeds.Deed.{Deed}
use Rattle.load_model.specs.declared.deeds.Deed.TheVariants as deeds
use Rattle.load_model.specs.declared.deeds.Entry.{Entry}
use Rattle.load_model.specs.Modules.{Library, Held, number_of, object_at}
use Rattle.load_model.specs.State.{Failing, Residence, Eager, nothing_yet, is_among}
use Rattle.load_model.specs.Memory.{page, pages_over, is_touched, first_untouched}
use Rattle.load_model.specs.Refusals.{residence_named}
use Rattle.load_model.specs.declared.commands.Ask.{Ask}
use Rattle.load_model.specs.declared.commands.Ask.TheVariants.{Enter as enter, Free as free, Exit as exit, Write as put, Debug as patch, Shared as get}
use Rattle.load_model.specs.Asks.{ask_in, deed_of, may_ask, after_deed, is_own}
use Rattle.load_model.specs.Step.{steady, answer_of, after_steady, serial_named}
use Rattle.load_model.specs.Histories.{is_fault_of}
use Rattle.session_model.specs.declared.sessions.Line.{Line}
use Rattle.session_model.specs.declared.sessions.Script.{Script}
use Rattle.session_model.specs.declared.sessions.ScriptLines.{ScriptLines}

-- ---- items

-- an entry of the history, or a steady line of a process, which counts from 1 in the order of the scripts
pub data Item : Type 0 where
  entry : Entry → Item
  line : ℕ → Line → Item

abbrev pub lines_of : ℕ → ℕ × ScriptLines → List Item
lines_of front s = map (line s.0) (filter (λ l. l.front == front) s.1.lines)

-- the lines that stand after so many entries, by process
abbrev pub lines_at : List ScriptLines → ℕ → List Item
lines_at s front = flat_map (lines_of front) (enumerate_from 1 s)

-- each entry, and the lines after it
unfoldable pub merge_of : List Entry → List ScriptLines → List Item
merge_of h s = lines_at s 0 ++ flat_map (λ e. entry e.1 ∷ lines_at s e.0) (enumerate_from 1 h)

-- ---- the state at a place of it

abbrev pub after_item : Library → Eager → Item → Eager
after_item lib e (entry x) = after_deed lib e x.pid x.deed
after_item lib e (line pid l) = after_steady lib e pid l.command l.reply

unfoldable pub state_after_items : Library → Failing → List Item → Eager
state_after_items lib failing items = fold (after_item lib) (nothing_yet failing) items

-- P holds of each item, with what stands before it and what stands after
abbrev pub AllPlaces : (List Item → Item → List Item → Type 0) → List Item → List Item → Type 0
AllPlaces P before [] = Unit {0}
AllPlaces P before (item ∷ after) = P before item after × AllPlaces P (before ++ item ∷ []) after

abbrev pub AllItems : (List Item → Item → List Item → Type 0) → List Item → Type 0
AllItems P items = AllPlaces P [] items

-- ---- fronts: at most the length of the history, and not falling within a process

abbrev pub FrontsFrom : ℕ → ℕ → List Line → Type 0
FrontsFrom low high [] = Unit {0}
FrontsFrom low high (l ∷ others) = (low ≤ l.front) × (l.front ≤ high) × FrontsFrom l.front high others

abbrev pub FrontsRise : List Entry → List ScriptLines → Type 0
FrontsRise h s = AllByRecursion (λ lines. FrontsFrom 0 (length h) lines.lines) s

-- ---- commands: a process's items, its faults left out, are its script's commands one for one

-- what a command asks, where its name means a module
abbrev pub AsksFor : Library → Command → Ask → Type 0
AsksFor lib (commands.Start name) ask = (m : ℕ) × (number_of lib name ≡ Some m) × (ask ≡ enter ways.Start m)
AsksFor lib (commands.Load name) ask = (m : ℕ) × (number_of lib name ≡ Some m) × (ask ≡ enter ways.Load m)
AsksFor lib (commands.Free name) ask = (m : ℕ) × (number_of lib name ≡ Some m) × (ask ≡ free m)
AsksFor lib (commands.Shared p) ask =
    (m : ℕ) × (serial : ℕ) × (number_of lib p.«module» ≡ Some m) × (ask ≡ get serial m p.object p.offset p.len)
AsksFor lib (commands.Write p bytes) ask =
    (m : ℕ) × (serial : ℕ) × (number_of lib p.«module» ≡ Some m) × (ask ≡ put serial m p.object p.offset bytes)
AsksFor lib (commands.Debug p bytes) ask =
    (m : ℕ) × (serial : ℕ) × (number_of lib p.«module» ≡ Some m) × (ask ≡ patch serial m p.object p.offset bytes)
AsksFor lib commands.Exit ask = ask ≡ exit
AsksFor lib command ask = ⊥

abbrev pub IsFor : Library → Item → Command → Type 0
IsFor lib (entry x) command = AsksFor lib command (ask_in x.deed)
IsFor lib (line pid l) command = l.command ≡ command

abbrev pub AreFor : Library → List Item → List Command → Type 0
AreFor lib [] [] = Unit {0}
AreFor lib (item ∷ items) (command ∷ others) = IsFor lib item command × AreFor lib items others
AreFor lib [] (command ∷ others) = ⊥
AreFor lib (item ∷ items) [] = ⊥

abbrev pub is_fault : Deed → Bool
is_fault (deeds.Fault serial m p) = true
is_fault deed = false

-- an item of a process, and no fault
abbrev pub is_command_of : ℕ → Item → Bool
is_command_of pid (entry x) = (x.pid == pid) && not (is_fault x.deed)
is_command_of pid (line other l) = other == pid

abbrev pub CommandsOf : Library → List Item → ℕ × Script → Type 0
CommandsOf lib items script = AreFor lib (filter (is_command_of script.0) items) script.1.commands

abbrev pub AllCommands : Library → List Item → List Script → Type 0
AllCommands lib items scripts = AllByRecursion (CommandsOf lib items) (enumerate_from 1 scripts)

-- ---- faults: what the process does next is the touch that made it

-- an accepted touch of a process covers a page of a residence, which the process had not touched
abbrev pub is_first_touch : Library → Eager → ℕ → ℕ → PageId → Command → Reply → Bool
is_first_touch lib e pid serial p (commands.Touch at) replies.Fine =
    (serial_named lib e pid at == serial) && (at.object == p.object) && is_among (pages_over at.offset at.len) p.page
    && not (is_touched (e.processes pid) serial p)
is_first_touch lib e pid serial p command reply = false

abbrev pub touches : Library → Eager → ℕ → PageId → Item → Bool
touches lib e serial p (line pid l) = is_first_touch lib e pid serial p l.command l.reply
touches lib e serial p (entry x) = false

abbrev pub some_touches : Library → Eager → ℕ → PageId → Option Item → Bool
some_touches lib e serial p None = false
some_touches lib e serial p (Some item) = touches lib e serial p item

abbrev pub fault_leads : Library → Eager → ℕ → Deed → List Item → Bool
fault_leads lib e pid (deeds.Fault serial m p) after = some_touches lib e serial p (find (is_command_of pid) after)
fault_leads lib e pid deed after = true

abbrev pub FaultLeads : Library → Failing → List Item → Item → List Item → Type 0
FaultLeads lib failing before (entry x) after = IsTrue (fault_leads lib (state_after_items lib failing before) x.pid x.deed after)
FaultLeads lib failing before (line pid l) after = Unit {0}

-- ---- touches: each code and shared page that is covered had its fault before

abbrev pub is_fault_item : ℕ → PageId → Item → Bool
is_fault_item serial p (entry x) = is_fault_of serial p x.deed
is_fault_item serial p (line pid l) = false

abbrev pub had_fault : Library → List Item → ℕ → ℕ → PageId → Bool
had_fault lib before serial m p = is_own (class_of (object_at lib m p.object)) || list_any (is_fault_item serial p) before

abbrev pub had_faults : Library → List Item → Place → Option Residence → Bool
had_faults lib before at None = false
had_faults lib before at (Some r) = list_all (λ n. had_fault lib before r.serial r.«module» (page at.object n)) (pages_over at.offset at.len)

abbrev pub touch_follows : Library → Failing → List Item → ℕ → Command → Reply → Bool
touch_follows lib failing before pid (commands.Touch at) replies.Fine =
    had_faults lib before at (residence_named lib (state_after_items lib failing before) pid at.«module»)
touch_follows lib failing before pid command reply = true

abbrev pub TouchFollows : Library → Failing → List Item → Item → List Item → Type 0
TouchFollows lib failing before (line pid l) after = IsTrue (touch_follows lib failing before pid l.command l.reply)
TouchFollows lib failing before (entry x) after = Unit {0}

-- ---- replies: each is the loader's at its place, and entries use touched pages alone

abbrev pub uses_touched : Eager → ℕ → Deed → Bool
uses_touched e pid (deeds.Write serial m object offset bytes) = is_none (first_untouched (e.processes pid) serial object offset (length bytes))
uses_touched e pid (deeds.Debug serial m object offset bytes) = is_none (first_untouched (e.processes pid) serial object offset (length bytes))
uses_touched e pid (deeds.Shared serial m object offset bytes) = is_none (first_untouched (e.processes pid) serial object offset (length bytes))
uses_touched e pid deed = true

pub record EntryReplies (lib : Library) (contents : Held) (e : Eager) (x : Entry) : Type 0 where
  pub may : IsTrue (may_ask lib e x.pid (ask_in x.deed))
  pub done : x.deed ≡ deed_of lib contents e x.pid (ask_in x.deed)
  pub touched : IsTrue (uses_touched e x.pid x.deed)

abbrev pub Replies : Library → Failing → Held → List Item → Item → List Item → Type 0
Replies lib failing contents before (entry x) after = EntryReplies lib contents (state_after_items lib failing before) x
Replies lib failing contents before (line pid l) after = answer_of lib contents (state_after_items lib failing before) pid l.command ≡ steady l.reply

-- ---- all of it

abbrev pub numbers_of : List ScriptLines → List ℕ
numbers_of s = map (λ lines. lines.pid) s

-- A history in which some initialisations fail, the steady lines of each process, and the scripts.
pub record Merge (lib : Library) (failing : Failing) (contents : Held) (h : List Entry) (s : List ScriptLines) (scripts : List Script) : Type 0 where
  -- there are lines for each script, and entries of no other process
  pub processes : numbers_of s ≡ map (λ script. script.pid) scripts
  pub entries : AllByRecursion (λ x. (1 ≤ x.pid) × (x.pid ≤ length scripts)) h
  pub fronts : FrontsRise h s
  pub commands : AllCommands lib (merge_of h s) scripts
  pub faults : AllItems (FaultLeads lib failing) (merge_of h s)
  pub touches : AllItems (TouchFollows lib failing) (merge_of h s)
  pub replies : AllItems (Replies lib failing contents) (merge_of h s)
