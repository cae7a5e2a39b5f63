-- What the calls of a process come to.
use Rattle.std.specs.Prelude.{◌≡◌, ℕ, ◌+◌, ◌≤◌, ◌⊎◌, ◌==◌, List, [], ◌∷◌, ◌++◌, length, true, false, Option, Some, None, nat_le, Result, Ok, Err}
use Rattle.std.specs.List.{AllByRecursion}
use Rattle.lx_types.specs.declared.fail.Fail.{Fail}
use Rattle.lx_types.specs.declared.fail.Fail.TheVariants.{Said, NoMemory}
use Rattle.load_model.specs.declared.commands.Command.{Command}
use Rattle.load_model.specs.declared.commands.Refusal.{Refusal}
use Rattle.load_model.specs.declared.commands.Refusal.TheVariants.{Ended, Worn}
use Rattle.load_model.specs.declared.commands.Reply.{Reply}
use Rattle.load_model.specs.declared.commands.Reply.TheVariants.{Refused}
use Rattle.load_model.specs.declared.deeds.Entry.{Entry}
use Rattle.load_model.specs.Modules.{fixed_bytes}
use Rattle.load_model.specs.Refusals.{when, ◌orelse◌}
use Rattle.load_model.specs.Asks.{ask_in}
use Rattle.load_model.specs.Step.{steady, answer_of}
use Rattle.load_model.specs.Histories.{state_after, Follows}
use Rattle.load_model.specs.Views.{mapped_pages, state_for}
use Rattle.load_model.specs.TouchedPages.{touched_after}
use Rattle.load_model.specs.ViewAnswers.{view_refusal, view_reply}
use Rattle.load_model.specs.Outcomes.{Outcome, done, told, IsTold}
use Rattle.session_model.specs.Merging.{AsksFor, is_fault, uses_touched}
use Rattle.merge_laws.specs.PageStates.{state_with}
use Rattle.process_view.specs.ProcessViews.{at_front, without_room}
use Rattle.process_view.specs.Deeds.{bytes_read}
use Rattle.proc_core.specs.declared.answers.Done.{Done}
use Rattle.proc_core.specs.Procs.{ProcState, front_of}
use Rattle.proc_core.specs.declared.deeds.TheConstants.{MAX_TICKETS}

-- ---- refusals

-- The refusal of a call that may take a turn: the view's, but for this one, which comes right after `Ended`.
abbrev pub call_refusal : ProcState → Command → Option Refusal
call_refusal p command =
    when p.view.holding.ended Ended orelse when (nat_le MAX_TICKETS p.known.drawn) Worn orelse view_refusal p.view.library p.view.holding command

-- What the loader with one thread answers at the process's own front, where the pages are touched that the process has mapped.
abbrev pub IsAnswerAtFront : ProcState → Command → Reply → Type 0
IsAnswerAtFront p command reply =
    answer_of p.view.library (fixed_bytes p.view.library)
    (state_for p.view.library (front_of p).failing p.view.holding p.known.seen) p.known.pid command ≡ steady reply

-- A process that has not ended has drawn all its tickets. The loader knows nothing of tickets.
abbrev pub IsWorn : ProcState → Refusal → Type 0
IsWorn p refusal = (refusal ≡ Worn) × (p.view.holding.ended ≡ false) × (MAX_TICKETS ≤ p.known.drawn)

-- A call that may take a turn is refused so: by its view, as the loader refuses it at the process's own front; or the process
-- is worn.
pub record IsRefusedCall (p : ProcState) (command : Command) (refusal : Refusal) : Type 0 where
  pub refused : call_refusal p command ≡ Some refusal
  pub step : IsWorn p refusal ⊎ IsAnswerAtFront p command (Refused refusal)

-- ---- what stays, and what was seen meanwhile

-- the pass is the same, but for what it has seen and made, and the tickets that it drew
pub record IsSamePass (p q : ProcState) : Type 0 where
  pub lock : q.lock ≡ p.lock
  pub known : q.known ≡ record p.known { seen = q.known.seen; mine = q.known.mine; drawn = q.known.drawn }

-- entries of other processes
abbrev pub AreOthers : ℕ → List Entry → Type 0
AreOthers pid entries = AllByRecursion (λ (x : Entry). (pid == x.pid) ≡ false) entries

-- Nothing was done: at most a turn was taken, and what others did was seen. There may be more room.
pub record Waited (p q : ProcState) : Type 0 where
  pub pass : IsSamePass p q
  pub more : List Entry
  pub others : AreOthers p.known.pid more
  pub seen : q.known.seen ≡ p.known.seen ++ more
  pub mine : q.known.mine ≡ p.known.mine
  pub drawn : (q.known.drawn ≡ p.known.drawn) ⊎ (q.known.drawn ≡ p.known.drawn + 1)
  pub view : without_room q.view ≡ without_room (at_front (length q.known.seen) p.view)

-- The command was carried out, in one turn: what others did was seen, and then stands its entry, which follows the
-- history there; it uses pages alone that the process had mapped. The caller was told of the entry by its number. What
-- is mapped is what the process has then touched, and its view stands for all of it.
pub record Made (p q : ProcState) (command : Command) (outcome : Outcome) : Type 0 where
  pub pass : IsSamePass p q
  pub accepted : call_refusal p command ≡ None
  pub more : List Entry
  pub entry : Entry
  pub others : AreOthers p.known.pid more
  pub seen : q.known.seen ≡ (p.known.seen ++ more) ++ entry ∷ []
  pub mine : q.known.mine ≡ p.known.mine ++ entry ∷ []
  pub drawn : q.known.drawn ≡ p.known.drawn + 1
  pub own : entry.pid ≡ p.known.pid
  pub asked : AsksFor p.view.library command (ask_in entry.deed)
  pub command_entry : is_fault entry.deed ≡ false
  pub follows : Follows p.view.library (front_of p).failing (fixed_bytes p.view.library) (p.known.seen ++ more) entry
  pub uses : uses_touched (state_with p.view.library (front_of p).failing (p.known.seen ++ more) (mapped_pages p.view.holding)) p.known.pid entry.deed ≡ true
  pub answered : IsTold (length q.known.seen) entry.deed outcome
  pub library : q.view.library ≡ p.view.library
  pub mapped :
      mapped_pages q.view.holding ≡
      touched_after p.view.library (state_after p.view.library (front_of p).failing (p.known.seen ++ more)) p.known.pid entry.deed
      (λ _. mapped_pages p.view.holding) p.known.pid

-- ---- calls with an entry

-- A refusal that the view decides draws no ticket and changes nothing. Want of a place and an initialisation that fails are
-- told by their entries.
abbrev pub IsRefused : ProcState → ProcState → Command → Refusal → Type 0
IsRefused p q command refusal = (IsRefusedCall p command refusal × (q ≡ p)) ⊎ Made p q command (told (Refused refusal))

abbrev pub IsAnswered : ProcState → ProcState → Command → Result Done (Fail Refusal) → Type 0
IsAnswered p q command (Ok it) = Made p q command (done it.number)
IsAnswered p q command (Err (Said refusal)) = IsRefused p q command refusal
IsAnswered p q command (Err NoMemory) = Waited p q

-- the bytes are those of the process's last entry
abbrev pub IsReadLast : ProcState → List ℕ → Type 0
IsReadLast q bytes = (before : List Entry) (x : Entry) → q.known.mine ≡ before ++ x ∷ [] → bytes ≡ bytes_read x.deed

-- ---- calls without an entry

-- What a call without an entry is answered: the view's reply, or its refusal. So the loader answers at the process's own front.
pub record IsReplied (p : ProcState) (command : Command) (reply : Reply) : Type 0 where
  pub accepted : view_refusal p.view.library p.view.holding command ≡ None
  pub replied : view_reply p.view.library p.view.holding command ≡ Some reply
  pub step : IsAnswerAtFront p command reply

pub record IsRefusedAtFront (p : ProcState) (command : Command) (refusal : Refusal) : Type 0 where
  pub refused : view_refusal p.view.library p.view.holding command ≡ Some refusal
  pub step : IsAnswerAtFront p command (Refused refusal)
