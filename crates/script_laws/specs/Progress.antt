-- How far a process has come with its script, and how it goes on: without an entry, by an entry, or by a touch.
use Rattle.std.specs.Prelude.{◌≡◌, ℕ, ◌==◌, true, false, List, [], ◌∷◌, ◌++◌, length, None}
use Rattle.std.specs.List.{AllByRecursion}
use Rattle.lx_types.specs.declared.object.PageId.{PageId}
use Rattle.load_model.specs.declared.commands.Place.{Place}
use Rattle.load_model.specs.declared.commands.Command.{Command}
use Rattle.load_model.specs.declared.commands.Command.TheVariants as commands
use Rattle.load_model.specs.declared.commands.Reply.{Reply}
use Rattle.load_model.specs.declared.deeds.Deed.{Deed}
use Rattle.load_model.specs.declared.deeds.Deed.TheVariants as deeds
use Rattle.load_model.specs.declared.deeds.Entry.{Entry}
use Rattle.load_model.specs.Modules.{Library, Held}
use Rattle.load_model.specs.State.{PageOf, Failing, is_among, pids}
use Rattle.load_model.specs.Memory.{pages_over}
use Rattle.load_model.specs.Asks.{ask_in}
use Rattle.load_model.specs.Histories.{state_after, Follows, Legal}
use Rattle.load_model.specs.Views.{Holding, mapped_pages, StandsFor}
use Rattle.load_model.specs.TouchedPages.{has_page, touched_after}
use Rattle.load_model.specs.ViewAnswers.{view_refusal}
use Rattle.session_model.specs.declared.sessions.Line.{Line}
use Rattle.session_model.specs.Merging.{AsksFor, is_fault, uses_touched}
use Rattle.merge_laws.specs.Accounts.{Account}
use Rattle.merge_laws.specs.OwnStates.{HasTouched}
use Rattle.merge_laws.specs.PageStates.{pages_at, state_with}
use Rattle.merge_laws.specs.PageStates.{serial_seen, has_pages}

-- The process of this view was shown this history, has carried out these commands, and answered these lines: of that it has
-- an account, and what it touched is what the view has mapped.
pub record Progress (lib : Library) (failing : Failing) (contents : Held) (v : Holding) (h : List Entry) (lines : List Line)
    (done : List Command) : Type 0 where
  pub process : is_among pids v.pid ≡ true
  pub legal : Legal lib failing contents h
  pub stands : StandsFor lib failing contents v h
  pub account : Account lib failing contents v.pid h lines done
  pub touched : HasTouched lib failing v.pid h lines (mapped_pages v)

-- the line of a command that is answered at the end of a history
abbrev pub line_at : List Entry → Command → Reply → Line
line_at h command reply = record { front = length h; command = command; reply = reply }

-- entries of other processes
abbrev pub AreOthers : ℕ → List Entry → Type 0
AreOthers pid more = AllByRecursion (λ (x : Entry). (pid == x.pid) ≡ false) more

-- ---- by an entry

-- The process was shown entries of others, and then made the one of a command, no fault, which follows the history there and
-- uses pages alone that its view had mapped. The view has mapped what the process has touched after it.
pub record Enters (lib : Library) (failing : Failing) (contents : Held) (v w : Holding) (h k : List Entry) (command : Command) : Type 0 where
  pub more : List Entry
  pub others : AreOthers v.pid more
  pub entry : Entry
  pub shown : k ≡ (h ++ more) ++ entry ∷ []
  pub own : entry.pid ≡ v.pid
  pub asked : AsksFor lib command (ask_in entry.deed)
  pub plain : is_fault entry.deed ≡ false
  pub follows : Follows lib failing contents (h ++ more) entry
  pub uses : uses_touched (state_with lib failing (h ++ more) (mapped_pages v)) v.pid entry.deed ≡ true
  pub same : w.pid ≡ v.pid
  pub mapped : mapped_pages w ≡ touched_after lib (state_after lib failing (h ++ more)) v.pid entry.deed (λ q. mapped_pages v) v.pid

-- ---- by a touch

-- the fault of a page of the place, in the residence that the view has, which it has not mapped
pub record IsFaultOfPlace (lib : Library) (v : Holding) (at : Place) (deed : Deed) : Type 0 where
  pub «module» : ℕ
  pub page_is : PageId
  pub is : deed ≡ deeds.Fault (serial_seen lib v at) «module» page_is
  pub object : at.object ≡ page_is.object
  pub covered : is_among (pages_over at.offset at.len) page_is.page ≡ true
  pub unmapped : has_page (mapped_pages v) (serial_seen lib v at) page_is ≡ false

-- The process was shown entries, of which its own are such faults. Its view has mapped pages of the place more, and all of
-- those that the place has.
pub record Touches (lib : Library) (v w : Holding) (h k : List Entry) (at : Place) : Type 0 where
  pub more : List Entry
  pub shown : k ≡ h ++ more
  pub faults : AllByRecursion (λ (x : Entry). (v.pid == x.pid) ≡ true → IsFaultOfPlace lib v at x.deed) more
  pub accepted : view_refusal lib v (commands.Touch at) ≡ None
  pub view : w ≡ record v { mapped = w.mapped; front = length k }
  pub news : List PageOf
  pub mapped : mapped_pages w ≡ mapped_pages v ++ news
  pub of_place : AllByRecursion (λ (t : PageOf). has_page (pages_at (serial_seen lib v at) at) t.serial t.page ≡ true) news
  pub all : has_pages (mapped_pages w) (serial_seen lib v at) at ≡ true
