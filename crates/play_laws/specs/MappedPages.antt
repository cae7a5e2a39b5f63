-- Which pages a process has mapped at a place: what it has touched there, and beside that pages of a touch that is under way.
use Rattle.std.specs.Prelude.{◌≡◌, ◌⊎◌, ℕ, ◌==◌, true, false, List, [], ◌∷◌, ◌++◌, find, Option, Some, None, IsTrue}
use Rattle.lx_types.specs.declared.object.PageId.{PageId}
use Rattle.load_model.specs.declared.commands.Place.{Place}
use Rattle.load_model.specs.declared.commands.Command.{Command}
use Rattle.load_model.specs.declared.commands.Command.TheVariants as commands
use Rattle.load_model.specs.declared.commands.Reply.{Reply}
use Rattle.load_model.specs.declared.commands.Reply.TheVariants as replies
use Rattle.load_model.specs.declared.deeds.Deed.TheVariants as deeds
use Rattle.load_model.specs.declared.deeds.Entry.{Entry}
use Rattle.load_model.specs.State.{PageOf, pids, is_among}
use Rattle.load_model.specs.Step.{serial_named}
use Rattle.load_model.specs.Histories.{Follows, Legal}
use Rattle.load_model.specs.Touched.{SamePages}
use Rattle.load_model.specs.TouchedPages.{has_page, touched_after}
use Rattle.session_model.specs.declared.sessions.Line.{Line}
use Rattle.session_model.specs.Merging.{Item, entry, line, is_command_of, some_touches, fault_leads}
use Rattle.session_model.specs.MergeLaws.{entries_in, touched_in}
use Rattle.merge_laws.specs.PageStates.{pages_at}
use Rattle.check_model.specs.Checks.{Judge, state_at, process_of}
use Rattle.check_core.specs.PlaceStates.{history_state, HasTouchedAt}

-- A page that is touched is mapped; and one that is mapped is touched, or the process's next item that is for a command is its
-- first touch.
pub record HasMapped (j : Judge) (before after : List Item) (pid : ℕ) (pages : List PageOf) : Type 0 where
  pub touched : (serial : ℕ) (p : PageId) → has_page (touched_in (state_at j before) pid) serial p ≡ true → has_page pages serial p ≡ true
  pub mapped :
      (serial : ℕ) (p : PageId) → has_page pages serial p ≡ true →
      (has_page (touched_in (state_at j before) pid) serial p ≡ true)
      ⊎ (some_touches j.lib (state_at j before) serial p (find (is_command_of pid) after) ≡ true)

-- the place of a touch that was accepted
abbrev pub accepted_in : Command → Reply → Option Place
accepted_in (commands.Touch at) replies.Fine = Some at
accepted_in command reply = None

abbrev pub accepted_touch : Item → Option Place
accepted_touch (entry x) = None
accepted_touch (line pid l) = accepted_in l.command l.reply

-- ---- laws

-- Nothing is mapped at first, whatever comes.
abbrev pub NothingMapped : Type 0
NothingMapped = (j : Judge) (pid : ℕ) (items : List Item) → HasMapped j [] items pid []

-- What is mapped is what is touched, where the process's item is for a command and no accepted touch.
abbrev pub MappedIsTouched : Type 0
MappedIsTouched =
    (j : Judge) (before after : List Item) (item : Item) (pid : ℕ) (pages : List PageOf) → is_command_of pid item ≡ true → accepted_touch item ≡ None →
    HasMapped j before (item ∷ after) pid pages → HasTouchedAt j before pid pages

-- After an entry of its own for a command it has mapped what it keeps of that.
abbrev pub MappedAfterEntry : Type 0
MappedAfterEntry =
    (j : Judge) (before after : List Item) (x : Entry) (pages : List PageOf) → HasTouchedAt j before x.pid pages →
    HasMapped j (before ++ entry x ∷ []) after x.pid (touched_after j.lib (history_state j before) x.pid x.deed (λ q. pages) x.pid)

-- After a line of its own that is no accepted touch it has mapped the same.
abbrev pub MappedAfterLine : Type 0
MappedAfterLine =
    (j : Judge) (before after : List Item) (pid : ℕ) (l : Line) (pages : List PageOf) → accepted_in l.command l.reply ≡ None → HasTouchedAt j before pid pages →
    HasMapped j (before ++ line pid l ∷ []) after pid pages

-- After an accepted touch it has mapped the pages of its place as well.
abbrev pub MappedAfterTouch : Type 0
MappedAfterTouch =
    (j : Judge) (before after : List Item) (pid : ℕ) (l : Line) (at : Place) (pages more : List PageOf) → accepted_in l.command l.reply ≡ Some at →
    HasMapped j before (line pid l ∷ after) pid pages → SamePages more (pages ++ pages_at (serial_named j.lib (history_state j before) pid at) at) →
    HasMapped j (before ++ line pid l ∷ []) after pid more

-- After a fault of its own that leads to a touch it has mapped that page as well.
abbrev pub MappedAfterFault : Type 0
MappedAfterFault =
    (j : Judge) (before after : List Item) (x : Entry) (serial m : ℕ) (p : PageId) (pages : List PageOf) → x.deed ≡ deeds.Fault serial m p →
    IsTrue (fault_leads j.lib (state_at j before) x.pid x.deed after) → HasMapped j before (entry x ∷ after) x.pid pages →
    HasMapped j (before ++ entry x ∷ []) after x.pid (pages ++ record { serial = serial; page = p } ∷ [])

-- what others do next follows the history
abbrev pub FollowsHistory : Judge → List Item → Item → Type 0
FollowsHistory j before (entry x) = Legal j.lib j.failing j.contents (entries_in before) × Follows j.lib j.failing j.contents (entries_in before) x
FollowsHistory j before (line pid l) = Unit {0}

-- After items of other processes it has mapped the same.
abbrev pub MappedAfterOthers : Type 0
MappedAfterOthers =
    (j : Judge) (before after : List Item) (item : Item) (pid : ℕ) (pages : List PageOf) → is_among pids pid ≡ true → (pid == process_of item) ≡ false →
    FollowsHistory j before item → HasMapped j before (item ∷ after) pid pages → HasMapped j (before ++ item ∷ []) after pid pages
