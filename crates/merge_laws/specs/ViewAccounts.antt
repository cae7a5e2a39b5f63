-- What a view that stands for the history gives its process to account for. A view has mapped pages by its own data
-- alone; between commands those are what the process has touched.
use Rattle.std.specs.Prelude.{◌≡◌, ℕ, true, false, List, [], ◌∷◌, ◌++◌, length, map, Some, None, IsTrue}
use Rattle.std.specs.List.{AllByRecursion}
use Rattle.lx_types.specs.declared.object.PageId.{PageId}
use Rattle.load_model.specs.declared.commands.Place.{Place}
use Rattle.load_model.specs.declared.commands.Command.{Command}
use Rattle.load_model.specs.declared.commands.Command.TheVariants as commands
use Rattle.load_model.specs.declared.commands.Refusal.{Refusal}
use Rattle.load_model.specs.declared.commands.Reply.{Reply}
use Rattle.load_model.specs.declared.commands.Reply.TheVariants as replies
use Rattle.load_model.specs.declared.deeds.Deed.TheVariants as deeds
use Rattle.load_model.specs.declared.deeds.Entry.{Entry}
use Rattle.load_model.specs.Modules.{Library, Held}
use Rattle.load_model.specs.State.{PageOf, Written, Process, Failing, is_among}
use Rattle.load_model.specs.Memory.{page, pages_over}
use Rattle.load_model.specs.Step.{steady, answer_of}
use Rattle.load_model.specs.Histories.{state_after, Legal}
use Rattle.load_model.specs.Views.{Holding, mapped_pages, StandsFor}
use Rattle.load_model.specs.ViewAnswers.{view_refusal, view_reply, reached_named}
use Rattle.load_model.specs.TouchedPages.{has_page}
use Rattle.load_model.specs.WrittenPages.{written_over}
use Rattle.load_model.specs.ViewLeaving.{GivesUpTo, mapped_kept}
use Rattle.session_model.specs.declared.sessions.Line.{Line}
use Rattle.session_model.specs.Merging.{FrontsFrom, touch_follows}
use Rattle.merge_laws.specs.Accounts.{own_items, own_state}
use Rattle.merge_laws.specs.MidTouch.{touch_line, IsFaultFor}
use Rattle.merge_laws.specs.OwnStates.{HasTouched}
use Rattle.merge_laws.specs.PageStates.{pages_at, serial_seen, has_pages}

-- ---- refusals and replies

-- A view that stands for the history, and has mapped what its process touched, refuses and replies what the process has
-- to account for.
abbrev pub ViewRefuses : Type 0
ViewRefuses =
    (lib : Library) (failing : Failing) (contents : Held) (v : Holding) (h : List Entry) (lines : List Line) (command : Command) (refusal : Refusal) →
    StandsFor lib failing contents v h → HasTouched lib failing v.pid h lines (mapped_pages v) → view_refusal lib v command ≡ Some refusal →
    answer_of lib contents (own_state lib failing v.pid h lines) v.pid command ≡ steady (replies.Refused refusal)

abbrev pub ViewReplies : Type 0
ViewReplies =
    (lib : Library) (failing : Failing) (contents : Held) (v : Holding) (h : List Entry) (lines : List Line) (command : Command) (reply : Reply) →
    Legal lib failing contents h →
    StandsFor lib failing contents v h → HasTouched lib failing v.pid h lines (mapped_pages v) → view_refusal lib v command ≡ None →
    view_reply lib v command ≡ Some reply →
    answer_of lib contents (own_state lib failing v.pid h lines) v.pid command ≡ steady reply

-- ---- a touch

-- A touch that the view does not refuse is accepted, whatever was mapped for it meanwhile.
abbrev pub TouchAccepted : Type 0
TouchAccepted =
    (lib : Library) (failing : Failing) (contents : Held) (v : Holding) (h : List Entry) (lines : List Line) (at : Place) → StandsFor lib failing contents v h →
    view_refusal lib v (commands.Touch at) ≡ None → answer_of lib contents (own_state lib failing v.pid h lines) v.pid (commands.Touch at) ≡ steady replies.Fine

-- Where the view has mapped all its pages, each had its fault that has to have one.
abbrev pub TouchFixed : Type 0
TouchFixed =
    (lib : Library) (failing : Failing) (contents : Held) (v : Holding) (h : List Entry) (lines : List Line) (at : Place) → StandsFor lib failing contents v h →
    view_refusal lib v (commands.Touch at) ≡ None → has_pages (mapped_pages v) (serial_seen lib v at) at ≡ true →
    IsTrue (touch_follows lib failing (own_items v.pid h lines) v.pid (commands.Touch at) replies.Fine)

-- The fault of a page of it is one for it, where the process had not touched the page.
abbrev pub FaultForTouch : Type 0
FaultForTouch =
    (lib : Library) (failing : Failing) (contents : Held) (v : Holding) (h : List Entry) (lines : List Line) (pages : List PageOf) (at : Place) (m : ℕ)
    (p : PageId) →
    StandsFor lib failing contents v h → HasTouched lib failing v.pid h lines pages → at.object ≡ p.object →
    is_among (pages_over at.offset at.len) p.page ≡ true →
    has_page pages (serial_seen lib v at) p ≡ false → IsFaultFor lib (own_state lib failing v.pid h lines) v.pid at (deeds.Fault (serial_seen lib v at) m p)

-- After its line the process has touched what the view has mapped: what it had touched before, and pages of the place
-- more, where all of those are mapped.
abbrev pub TouchMapped : Type 0
TouchMapped =
    (lib : Library) (failing : Failing) (contents : Held) (v : Holding) (h : List Entry) (lines : List Line) (pages more : List PageOf) (at : Place) →
    StandsFor lib failing contents v h → HasTouched lib failing v.pid h lines pages → mapped_pages v ≡ pages ++ more →
    AllByRecursion (λ (t : PageOf). has_page (pages_at (serial_seen lib v at) at) t.serial t.page ≡ true) more →
    has_pages (mapped_pages v) (serial_seen lib v at) at ≡ true →
    HasTouched lib failing v.pid h (lines ++ touch_line (length h) at ∷ []) (mapped_pages v)

-- ---- a write of its own

-- It maps the same pages.
abbrev pub WrittenMapped : Type 0
WrittenMapped = (v : Holding) (serial : ℕ) (w : Written) → mapped_pages (record v { mapped = map (written_over serial w) v.mapped }) ≡ mapped_pages v

-- ---- a free or an exit of its own

-- After it the process has touched what the view keeps mapped.
abbrev pub LeftMapped : Type 0
LeftMapped =
    (lib : Library) (failing : Failing) (v : Holding) (h : List Entry) (lines : List Line) (x : Entry) (after : Process) → FrontsFrom 0 (length h) lines →
    x.pid ≡ v.pid →
    GivesUpTo x.deed ((state_after lib failing h).processes v.pid) after → HasTouched lib failing v.pid h lines (mapped_pages v) →
    HasTouched lib failing v.pid (h ++ x ∷ []) lines (mapped_pages (record v { mapped = mapped_kept lib (state_after lib failing h) after v.mapped }))
