-- What is right at a place, kind by kind; and the first place at which something is wrong.
use Rattle.std.specs.Prelude.{◌≡◌, ℕ, zero, suc, ◌≤◌, ◌⊎◌, true, List, [], ◌∷◌, ◌++◌, length, filter, IsTrue, slice_get}
use Rattle.std.specs.List.{AllByRecursion}
use Rattle.load_model.specs.declared.commands.Command.{Command}
use Rattle.load_model.specs.declared.deeds.Entry.{Entry}
use Rattle.load_model.specs.Modules.{Library, Held}
use Rattle.load_model.specs.State.{Failing, Eager, pids, is_among}
use Rattle.load_model.specs.Asks.{ask_in, deed_of, may_ask}
use Rattle.load_model.specs.Histories.{is_first_fault}
use Rattle.session_model.specs.declared.sessions.Script.{Script}
use Rattle.session_model.specs.Merging.{Item, entry, line, merge_of, state_after_items, AreFor, AllCommands, is_command_of, FaultLeads, TouchFollows, uses_touched, Replies}
use Rattle.session_model.specs.MergeLaws.{entries_in}
use Rattle.check_model.specs.declared.kinds.CheckKind.{CheckKind}
use Rattle.check_model.specs.declared.kinds.CheckKind.TheVariants as kinds
use Rattle.check_model.specs.Told.{Told, told_text, IsTold, counts_of, commands_at}
use Rattle.check_model.specs.TextFault.{TextFault}
use Rattle.check_model.specs.Places.{What, heading, at_item, beyond, summary, Place, places}

-- what a transcript is judged by: a library, which initialisations fail, what objects hold, and the scripts
pub record Judge : Type 0 where
  pub lib : Library
  pub failing : Failing
  pub contents : Held
  pub scripts : List Script

-- ---- fronts

abbrev pub IsFront : ℕ → ℕ → ℕ → Type 0
IsFront low high front = (low ≤ front) × (front ≤ high)

abbrev pub FrontFits : ℕ → ℕ → Item → Type 0
FrontFits low high (line pid l) = IsFront low high l.front
FrontFits low high (entry x) = Unit {0}

-- ---- commands

-- those of a process, which counts from 1; of another, none
abbrev pub commands_of : List Script → ℕ → List Command
commands_of scripts zero = []
commands_of scripts (suc k) = commands_at (slice_get scripts k)

-- the items are for the first of some commands, one for one
pub record AreForFirst (lib : Library) (items : List Item) (commands : List Command) : Type 0 where
  pub first : List Command
  pub left : List Command
  pub all : commands ≡ first ++ left
  pub are : AreFor lib items first

abbrev pub process_of : Item → ℕ
process_of (entry x) = x.pid
process_of (line pid l) = pid

-- An item that is for a command is for the next one of its process's script: with those before it, it is for the first ones.
abbrev pub CommandIsNext : Judge → List Item → Item → Type 0
CommandIsNext j before item =
    is_command_of (process_of item) item ≡ true →
    AreForFirst j.lib (filter (is_command_of (process_of item)) (before ++ item ∷ [])) (commands_of j.scripts (process_of item))

-- ---- entries

-- the state in which an item stands
abbrev pub state_at : Judge → List Item → Eager
state_at j before = state_after_items j.lib j.failing before

-- the process has a script, and may ask for what the entry asks
pub record MayAsk (j : Judge) (e : Eager) (x : Entry) : Type 0 where
  pub least : 1 ≤ x.pid
  pub most : x.pid ≤ length j.scripts
  pub process : IsTrue (is_among pids x.pid)
  pub may : IsTrue (may_ask j.lib e x.pid (ask_in x.deed))

abbrev pub EntryIsAsked : Judge → List Item → Item → Type 0
EntryIsAsked j before (entry x) = MayAsk j (state_at j before) x
EntryIsAsked j before (line pid l) = Unit {0}

abbrev pub EntryIsDone : Judge → List Item → Item → Type 0
EntryIsDone j before (entry x) = x.deed ≡ deed_of j.lib j.contents (state_at j before) x.pid (ask_in x.deed)
EntryIsDone j before (line pid l) = Unit {0}

-- ---- faults and touches

-- the page had no fault, and the process's next item is its first touch of the page
abbrev pub FaultIsFirst : List Item → Item → Type 0
FaultIsFirst before (entry x) = IsTrue (is_first_fault (entries_in before) x.deed)
FaultIsFirst before (line pid l) = Unit {0}

abbrev pub FaultIsRight : Judge → List Item → Item → List Item → Type 0
FaultIsRight j before item after = FaultIsFirst before item × FaultLeads j.lib j.failing before item after

abbrev pub UsesTouched : Judge → List Item → Item → Type 0
UsesTouched j before (entry x) = IsTrue (uses_touched (state_at j before) x.pid x.deed)
UsesTouched j before (line pid l) = Unit {0}

abbrev pub TouchIsRight : Judge → List Item → Item → List Item → Type 0
TouchIsRight j before item after = UsesTouched j before item × TouchFollows j.lib j.failing before item after

-- ---- replies

abbrev pub ReplyIsRight : Judge → List Item → Item → List Item → Type 0
ReplyIsRight j before (line pid l) after = Replies j.lib j.failing j.contents before (line pid l) after
ReplyIsRight j before (entry x) after = Unit {0}

-- ---- by kind

abbrev pub IsHeading : What → Type 0
IsHeading (heading told asked) = told ≡ asked
IsHeading what = Unit {0}

abbrev pub HasFront : Told → What → Type 0
HasFront t (at_item low before item after) = FrontFits low (length t.run.history) item
HasFront t (beyond l) = l.front ≤ length t.run.history
HasFront t what = Unit {0}

-- at the end none is left
abbrev pub HasCommand : Judge → Told → What → Type 0
HasCommand j t (at_item low before item after) = CommandIsNext j before item
HasCommand j t summary = AllCommands j.lib (merge_of t.run.history t.run.steady) j.scripts
HasCommand j t what = Unit {0}

abbrev pub IsAsked : Judge → What → Type 0
IsAsked j (at_item low before item after) = EntryIsAsked j before item
IsAsked j what = Unit {0}

abbrev pub IsDone : Judge → What → Type 0
IsDone j (at_item low before item after) = EntryIsDone j before item
IsDone j what = Unit {0}

abbrev pub HasFault : Judge → What → Type 0
HasFault j (at_item low before item after) = FaultIsRight j before item after
HasFault j what = Unit {0}

abbrev pub HasTouch : Judge → What → Type 0
HasTouch j (at_item low before item after) = TouchIsRight j before item after
HasTouch j what = Unit {0}

abbrev pub HasReply : Judge → What → Type 0
HasReply j (at_item low before item after) = ReplyIsRight j before item after
HasReply j what = Unit {0}

abbrev pub HasCounts : Told → What → Type 0
HasCounts t summary = t.counts ≡ counts_of t.run
HasCounts t what = Unit {0}

-- Of the kind nothing is wrong there. Texts are judged before all places.
abbrev pub IsRight : Judge → Told → What → CheckKind → Type 0
IsRight j t what kinds.Text = Unit {0}
IsRight j t what kinds.Scripts = IsHeading what
IsRight j t what kinds.Front = HasFront t what
IsRight j t what kinds.Command = HasCommand j t what
IsRight j t what kinds.Refused = IsAsked j what
IsRight j t what kinds.Entry = IsDone j what
IsRight j t what kinds.Fault = HasFault j what
IsRight j t what kinds.Touch = HasTouch j what
IsRight j t what kinds.Reply = HasReply j what
IsRight j t what kinds.Count = HasCounts t what

abbrev pub in_order : List CheckKind
in_order =
    kinds.Scripts ∷ kinds.Front ∷ kinds.Command ∷ kinds.Refused ∷ kinds.Entry ∷ kinds.Fault ∷ kinds.Touch ∷ kinds.Reply ∷ kinds.Count ∷ []

-- ---- the first that is wrong

-- of some kinds, this is the first of which something is wrong
abbrev pub WrongFirst : (CheckKind → Type 0) → List CheckKind → CheckKind → Type 0
WrongFirst Right [] kind = ⊥
WrongFirst Right (k ∷ others) kind = ((kind ≡ k) × (Right k → ⊥)) ⊎ (Right k × WrongFirst Right others kind)

abbrev pub IsFine : Judge → Told → Place → Type 0
IsFine j t p = AllByRecursion (IsRight j t p.what) in_order

pub record IsWrong (j : Judge) (t : Told) (p : Place) (number : ℕ) (kind : CheckKind) : Type 0 where
  pub number_is : number ≡ p.number
  pub kind_is : WrongFirst (IsRight j t p.what) in_order kind

-- Of some places, the first at which something is wrong stands at this line, and this is wrong.
abbrev pub FirstWrongIn : Judge → Told → List Place → ℕ → CheckKind → Type 0
FirstWrongIn j t [] number kind = ⊥
FirstWrongIn j t (p ∷ others) number kind = IsWrong j t p number kind ⊎ (IsFine j t p × FirstWrongIn j t others number kind)

abbrev pub FirstWrong : Judge → Told → ℕ → CheckKind → Type 0
FirstWrong j t number kind = FirstWrongIn j t (places t.run j.scripts) number kind

abbrev pub NothingWrong : Judge → Told → Type 0
NothingWrong j t = AllByRecursion (IsFine j t) (places t.run j.scripts)

-- ---- the whole check

-- The bytes are a text of this, of which nothing is wrong.
pub record IsAccepted (j : Judge) (bytes : List ℕ) (t : Told) : Type 0 where
  pub told : IsTold j.lib t
  pub text : bytes ≡ told_text j.lib t
  pub nothing : NothingWrong j t

-- They are a text of something, which goes wrong there first.
pub record IsToldWrong (j : Judge) (bytes : List ℕ) (number : ℕ) (kind : CheckKind) : Type 0 where
  pub it : Told
  pub told : IsTold j.lib it
  pub text : bytes ≡ told_text j.lib it
  pub wrong : FirstWrong j it number kind

-- What is told of bytes that are not accepted: they are no text, from this line on; or something is wrong in what they tell.
abbrev pub IsRefused : Judge → List ℕ → ℕ → CheckKind → Type 0
IsRefused j bytes number kinds.Text = TextFault j.lib bytes number
IsRefused j bytes number kind = IsToldWrong j bytes number kind
