-- The state at a place of a merge, by the history of the entries before it and by which pages each process has touched.
use Rattle.std.specs.Prelude.{◌≡◌, ℕ, ◌==◌, false, List, [], ◌∷◌, ◌++◌, Some, None}
use Rattle.lx_types.specs.declared.object.PageId.{PageId}
use Rattle.load_model.specs.declared.commands.Place.{Place}
use Rattle.load_model.specs.declared.commands.Command.{Command}
use Rattle.load_model.specs.declared.commands.Command.TheVariants as commands
use Rattle.load_model.specs.declared.commands.Refusal.{Refusal}
use Rattle.load_model.specs.declared.commands.Reply.{Reply}
use Rattle.load_model.specs.declared.commands.Reply.TheVariants as replies
use Rattle.load_model.specs.declared.commands.Ask.{Ask}
use Rattle.load_model.specs.declared.deeds.Deed.{Deed}
use Rattle.load_model.specs.declared.deeds.Entry.{Entry}
use Rattle.load_model.specs.State.{PageOf, Eager}
use Rattle.load_model.specs.Asks.{deed_of, may_ask}
use Rattle.load_model.specs.Refusals.{residence_named, refusal_of}
use Rattle.load_model.specs.Step.{steady, answer_of}
use Rattle.load_model.specs.Histories.{state_after, Legal}
use Rattle.load_model.specs.Touched.{SamePages}
use Rattle.load_model.specs.TouchedPages.{touched_after}
use Rattle.load_model.specs.Views.{Holding, mapped_pages, StandsFor}
use Rattle.load_model.specs.ViewAnswers.{view_refusal, view_reply}
use Rattle.session_model.specs.declared.sessions.Line.{Line}
use Rattle.session_model.specs.Merging.{Item, entry, line, is_first_touch, touch_follows, uses_touched}
use Rattle.session_model.specs.MergeLaws.{entries_in, touched_in}
use Rattle.merge_laws.specs.OwnStates.{pages_after_line, are_fixed}
use Rattle.merge_laws.specs.PageStates.{state_with}
use Rattle.check_model.specs.Checks.{Judge, state_at}

-- the state after the entries before a place
abbrev pub history_state : Judge → List Item → Eager
history_state j before = state_after j.lib j.failing (entries_in before)

-- the same, in which these pages were touched
abbrev pub paged_state : Judge → List Item → List PageOf → Eager
paged_state j before pages = state_with j.lib j.failing (entries_in before) pages

-- What may be asked at a place, and what is done then, is so after the history before it.
pub record EntriesByHistory : Type 0 where
  pub may : (j : Judge) (before : List Item) (pid : ℕ) (ask : Ask) → may_ask j.lib (state_at j before) pid ask ≡ may_ask j.lib (history_state j before) pid ask
  pub done :
      (j : Judge) (before : List Item) (pid : ℕ) (ask : Ask) →
      deed_of j.lib j.contents (state_at j before) pid ask ≡ deed_of j.lib j.contents (history_state j before) pid ask

-- page by page, a process has touched these at a place
abbrev pub HasTouchedAt : Judge → List Item → ℕ → List PageOf → Type 0
HasTouchedAt j before pid pages = SamePages (touched_in (state_at j before) pid) pages

-- Nothing at first; after an entry what the process keeps; after its own line what the touch adds, and after a line of another the same.
pub record TouchedByItems : Type 0 where
  pub nothing : (j : Judge) (pid : ℕ) → HasTouchedAt j [] pid []
  pub by_entry :
      (j : Judge) (before : List Item) (pid : ℕ) (pages : List PageOf) (x : Entry) → HasTouchedAt j before pid pages →
      HasTouchedAt j (before ++ entry x ∷ []) pid (touched_after j.lib (history_state j before) x.pid x.deed (λ q. pages) pid)
  pub by_line :
      (j : Judge) (before : List Item) (pid : ℕ) (pages : List PageOf) (l : Line) → HasTouchedAt j before pid pages →
      HasTouchedAt j (before ++ line pid l ∷ []) pid (pages_after_line j.lib (history_state j before) pid l.command l.reply pages)
  pub by_other :
      (j : Judge) (before : List Item) (pid other : ℕ) (pages : List PageOf) (l : Line) → (pid == other) ≡ false → HasTouchedAt j before pid pages →
      HasTouchedAt j (before ++ line other l ∷ []) pid pages

-- Such pages and the history decide what the process is refused and answered at the place, whether an entry uses touched pages
-- alone, and which touch is a first one; and the history alone, whether a touch follows its faults.
pub record DecidedByPages (j : Judge) (before : List Item) (pid : ℕ) (pages : List PageOf) : Type 0 where
  pub refusals : (command : Command) → refusal_of j.lib (state_at j before) pid command ≡ refusal_of j.lib (paged_state j before pages) pid command
  pub answers :
      (command : Command) →
      answer_of j.lib j.contents (state_at j before) pid command ≡ answer_of j.lib j.contents (paged_state j before pages) pid command
  pub uses : (deed : Deed) → uses_touched (state_at j before) pid deed ≡ uses_touched (paged_state j before pages) pid deed
  pub firsts :
      (serial : ℕ) (p : PageId) (command : Command) (reply : Reply) →
      is_first_touch j.lib (state_at j before) pid serial p command reply ≡ is_first_touch j.lib (paged_state j before pages) pid serial p command reply
  pub follows :
      (at : Place) →
      touch_follows j.lib j.failing before pid (commands.Touch at) replies.Fine
      ≡ are_fixed j.lib (entries_in before) at (residence_named j.lib (history_state j before) pid at.«module»)

abbrev pub PagesDecide : Type 0
PagesDecide = (j : Judge) (before : List Item) (pid : ℕ) (pages : List PageOf) → HasTouchedAt j before pid pages → DecidedByPages j before pid pages

-- A view that stands for the history before a place, and has mapped what its process has touched there.
pub record StandsAtPlace (j : Judge) (before : List Item) (v : Holding) : Type 0 where
  pub legal : Legal j.lib j.failing j.contents (entries_in before)
  pub stands : StandsFor j.lib j.failing j.contents v (entries_in before)
  pub touched : HasTouchedAt j before v.pid (mapped_pages v)

-- It refuses what the loader refuses its process at the place, and replies what it replies.
pub record ViewsAnswerAtPlaces : Type 0 where
  pub refusals :
      (j : Judge) (before : List Item) (v : Holding) (command : Command) → StandsAtPlace j before v →
      refusal_of j.lib (state_at j before) v.pid command ≡ view_refusal j.lib v command
  pub answers :
      (j : Judge) (before : List Item) (v : Holding) (command : Command) (reply : Reply) → StandsAtPlace j before v → view_refusal j.lib v command ≡ None →
      view_reply j.lib v command ≡ Some reply → answer_of j.lib j.contents (state_at j before) v.pid command ≡ steady reply
  pub refused :
      (j : Judge) (before : List Item) (v : Holding) (command : Command) (refusal : Refusal) → StandsAtPlace j before v →
      view_refusal j.lib v command ≡ Some refusal → answer_of j.lib j.contents (state_at j before) v.pid command ≡ steady (replies.Refused refusal)
