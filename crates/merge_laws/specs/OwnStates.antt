-- The state that a process accounts by: it is the history's but for touched pages, and those are followed page by page.
use Rattle.std.specs.Prelude.{◌≡◌, ℕ, ◌==◌, ◌||◌, Bool, false, List, [], ◌∷◌, ◌++◌, length, Option, Some, None, IsTrue}
use Rattle.std.specs.List.{AllByRecursion, list_all}
use Rattle.lx_types.specs.declared.object.PageId.{PageId}
use Rattle.lx_types.specs.Object.{class_of}
use Rattle.load_model.specs.declared.commands.Place.{Place}
use Rattle.load_model.specs.declared.commands.Command.{Command}
use Rattle.load_model.specs.declared.commands.Command.TheVariants as commands
use Rattle.load_model.specs.declared.commands.Reply.{Reply}
use Rattle.load_model.specs.declared.commands.Reply.TheVariants as replies
use Rattle.load_model.specs.declared.deeds.Deed.{Deed}
use Rattle.load_model.specs.declared.deeds.Entry.{Entry}
use Rattle.load_model.specs.Modules.{Library, Held, object_at}
use Rattle.load_model.specs.State.{PageOf, Residence, Failing, Eager}
use Rattle.load_model.specs.Memory.{page, pages_over}
use Rattle.load_model.specs.Refusals.{residence_named, refusal_of}
use Rattle.load_model.specs.Asks.{is_own}
use Rattle.load_model.specs.Step.{answer_of, serial_named}
use Rattle.load_model.specs.Histories.{state_after, has_fault, Follows}
use Rattle.load_model.specs.Accepted.{retouched}
use Rattle.load_model.specs.Touched.{SamePages}
use Rattle.load_model.specs.Views.{new_holding, mapped_pages}
use Rattle.load_model.specs.TouchedPages.{touched_after}
use Rattle.session_model.specs.declared.sessions.Line.{Line}
use Rattle.session_model.specs.Merging.{FrontsFrom, is_first_touch, touch_follows, uses_touched, EntryReplies}
use Rattle.session_model.specs.MergeLaws.{entries_in, touched_in}
use Rattle.merge_laws.specs.Accounts.{own_items, own_state}
use Rattle.merge_laws.specs.PageStates.{pages_at, state_with}

-- ---- the state

-- A process's own items have the history's entries, and its own state is the history's, but for touched pages.
abbrev pub OwnItemsHaveHistory : Type 0
OwnItemsHaveHistory = (pid : ℕ) (h : List Entry) (lines : List Line) → entries_in (own_items pid h lines) ≡ h

abbrev pub OwnStateIsTheHistorys : Type 0
OwnStateIsTheHistorys =
    (lib : Library) (failing : Failing) (pid : ℕ) (h : List Entry) (lines : List Line) →
    own_state lib failing pid h lines ≡ retouched (touched_in (own_state lib failing pid h lines)) (state_after lib failing h)

-- So an entry that follows the history is what the loader answers there, where it uses touched pages alone.
abbrev pub FollowingReplies : Type 0
FollowingReplies =
    (lib : Library) (failing : Failing) (contents : Held) (pid : ℕ) (h : List Entry) (lines : List Line) (x : Entry) → Follows lib failing contents h x →
    IsTrue (uses_touched (own_state lib failing pid h lines) x.pid x.deed) → EntryReplies lib contents (own_state lib failing pid h lines) x

-- ---- which pages it has touched

-- page by page, the process has touched these
abbrev pub HasTouched : Library → Failing → ℕ → List Entry → List Line → List PageOf → Type 0
HasTouched lib failing pid h lines pages = SamePages (touched_in (own_state lib failing pid h lines) pid) pages

-- those after a line: an accepted touch adds its own
abbrev pub pages_after_line : Library → Eager → ℕ → Command → Reply → List PageOf → List PageOf
pages_after_line lib e pid (commands.Touch at) replies.Fine pages = pages ++ pages_at (serial_named lib e pid at) at
pages_after_line lib e pid command reply pages = pages

-- At first none, as a new view has mapped none. After an entry they are those that the process keeps, where it is its
-- own, and the same where it is another's. After a line of its own they are those that the touch adds.
abbrev pub NothingTouched : Type 0
NothingTouched = (lib : Library) (failing : Failing) (pid : ℕ) → HasTouched lib failing pid [] [] (mapped_pages (new_holding lib pid))

abbrev pub TouchedAfterEntry : Type 0
TouchedAfterEntry =
    (lib : Library) (failing : Failing) (pid : ℕ) (h : List Entry) (lines : List Line) (pages : List PageOf) (x : Entry) → FrontsFrom 0 (length h) lines →
    HasTouched lib failing pid h lines pages → HasTouched lib failing pid (h ++ x ∷ []) lines
    (touched_after lib (state_after lib failing h) x.pid x.deed (λ q. pages) pid)

abbrev pub TouchedAfterLine : Type 0
TouchedAfterLine =
    (lib : Library) (failing : Failing) (pid : ℕ) (h : List Entry) (lines : List Line) (pages : List PageOf) (l : Line) → l.front ≡ length h →
    HasTouched lib failing pid h lines pages → HasTouched lib failing pid h (lines ++ l ∷ [])
    (pages_after_line lib (state_after lib failing h) pid l.command l.reply pages)

-- While others go on it touches none.
abbrev pub TouchedGoesOn : Type 0
TouchedGoesOn =
    (lib : Library) (failing : Failing) (pid : ℕ) (h more : List Entry) (lines : List Line) (pages : List PageOf) → FrontsFrom 0 (length h) lines →
    AllByRecursion (λ (x : Entry). (pid == x.pid) ≡ false) more → HasTouched lib failing pid h lines pages → HasTouched lib failing pid (h ++ more) lines pages

-- ---- what such pages decide

-- Refusals, answers, uses of touched pages and first touches in its own state are those in the history's, with such pages.
pub record SameByPages (lib : Library) (failing : Failing) (contents : Held) (pid : ℕ) (h : List Entry) (lines : List Line) (pages : List PageOf) : Type 0 where
  pub refusals : (command : Command) → refusal_of lib (own_state lib failing pid h lines) pid command
      ≡ refusal_of lib (state_with lib failing h pages) pid command
  pub answers : (command : Command) → answer_of lib contents (own_state lib failing pid h lines) pid command
      ≡ answer_of lib contents (state_with lib failing h pages) pid command
  pub uses : (deed : Deed) → uses_touched (own_state lib failing pid h lines) pid deed ≡ uses_touched (state_with lib failing h pages) pid deed
  pub firsts : (serial : ℕ) (p : PageId) (command : Command) (reply : Reply) →
      is_first_touch lib (own_state lib failing pid h lines) pid serial p command reply
      ≡ is_first_touch lib (state_with lib failing h pages) pid serial p command reply

abbrev pub TouchedDecides : Type 0
TouchedDecides =
    (lib : Library) (failing : Failing) (contents : Held) (pid : ℕ) (h : List Entry) (lines : List Line) (pages : List PageOf) →
    HasTouched lib failing pid h lines pages →
    SameByPages lib failing contents pid h lines pages

-- ---- faults before a touch

-- each page of a place is a private one or has its fault in the history
abbrev pub is_fixed : Library → List Entry → ℕ → ℕ → PageId → Bool
is_fixed lib h serial m p = is_own (class_of (object_at lib m p.object)) || has_fault h serial p

abbrev pub are_fixed : Library → List Entry → Place → Option Residence → Bool
are_fixed lib h at None = false
are_fixed lib h at (Some r) = list_all (λ n. is_fixed lib h r.serial r.«module» (page at.object n)) (pages_over at.offset at.len)

-- An accepted touch follows exactly where the history has fixed what it covers, by whichever process.
abbrev pub TouchFollowsFaults : Type 0
TouchFollowsFaults =
    (lib : Library) (failing : Failing) (pid : ℕ) (h : List Entry) (lines : List Line) (at : Place) →
    touch_follows lib failing (own_items pid h lines) pid (commands.Touch at) replies.Fine
    ≡ are_fixed lib h at (residence_named lib (state_after lib failing h) pid at.«module»)
