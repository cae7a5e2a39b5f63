-- A fault as a player judges it.
use Rattle.std.proofs.Common.{◌≡◌, inl, inr, ℕ, ◌==◌, ◌&&◌, not, Bool, true, false, if◌then◌else◌, List, [], ◌∷◌, ◌++◌, find, Option, Some, None, is_some, IsTrue, refl, sym, ◌∙◌, ap, subst, eqb-true, true≢false}
use Rattle.lx_types.specs.declared.object.PageId.{PageId}
use Rattle.load_model.specs.declared.commands.Ask.{Ask}
use Rattle.load_model.specs.declared.commands.Ask.TheVariants.{Fault as fault}
use Rattle.load_model.specs.declared.commands.Command.{Command}
use Rattle.load_model.specs.declared.commands.Command.TheVariants as commands
use Rattle.load_model.specs.declared.commands.Place.{Place}
use Rattle.load_model.specs.declared.commands.Reply.{Reply}
use Rattle.load_model.specs.declared.commands.Reply.TheVariants as replies
use Rattle.load_model.specs.declared.deeds.Deed.{Deed}
use Rattle.load_model.specs.declared.deeds.Deed.TheVariants as deeds
use Rattle.load_model.specs.declared.deeds.Entry.{Entry}
use Rattle.load_model.specs.Modules.{Library, Held}
use Rattle.load_model.specs.State.{pids, Eager, is_among, serial_of}
use Rattle.load_model.specs.Memory.{pages_over, is_touched}
use Rattle.load_model.specs.Asks.{ask_in, deed_of, may_ask}
use Rattle.load_model.specs.Step.{serial_named}
use Rattle.load_model.specs.Histories.{has_fault, is_first_fault}
use Rattle.load_model.specs.Views.{mapped_pages}
use Rattle.load_model.proofs.Bools.{and_left}
use Rattle.load_model.proofs.Touched.{named_apart}
use Rattle.load_core.specs.BoardState.{BoardState, state_of, IsLegal, with_entry}
use Rattle.session_model.specs.Merging.{Item, entry, line, is_command_of, is_first_touch, some_touches, fault_leads, uses_touched}
use Rattle.session_model.specs.MergeLaws.{entries_in, touched_in}
use Rattle.session_model.proofs.MergeStates.{entries_append, states_are_the_historys}
use Rattle.process_view.specs.ProcessViews.{ProcessView}
use Rattle.check_model.specs.declared.kinds.CheckKind.TheVariants as kinds
use Rattle.check_model.specs.Checks.{Judge, state_at, EntryIsAsked, EntryIsDone, FaultIsRight}
use Rattle.check_core.specs.PlaceStates.{history_state}
use Rattle.check_core.specs.PlayedItems.{CanPlay, next_after}
use Rattle.check_core.proofs.PlaceStates.{entries_by_history}
use Rattle.play_laws.specs.MappedPages.{HasMapped, MappedAfterFault}
use Rattle.check_play.specs.declared.standing.Standing.{Standing}
use Rattle.check_play.specs.declared.faults.ResidencePage.{ResidencePage}
use Rattle.check_play.specs.Playing.{StandsAlone, IsPlayedAlone}
use Rattle.check_play.specs.FaultTouches.{covers, covers_in, touch_in, next_touch, residence_fault, IsFaultMade}
use Rattle.check_play.proofs.FaultResidences as stays

-- ---- the touch that comes next

named_at : (j : Judge) (before : List Item) (pid : ℕ) (at : Place) → serial_named j.lib (state_at j before) pid at ≡ serial_named j.lib (history_state j before) pid at
named_at j before pid at =
    ap (λ (g : Eager). serial_named j.lib g pid at) (states_are_the_historys j.lib j.failing before)
    ∙ ap serial_of (named_apart j.lib (history_state j before) (touched_in (state_at j before)) pid at.«module»)

three_tests : (a b c t : Bool) (at : Place) → ((a && b) && c) && not t ≡ is_some (if a && (b && c) then Some at else None) && not t
three_tests true true true t at = refl
three_tests true true false t at = refl
three_tests true false c t at = refl
three_tests false b c t at = refl

-- a first touch is one that covers the page, which the process had not touched
first_is : (lib : Library) (e h : Eager) (pid serial : ℕ) (p : PageId) → ((at : Place) → serial_named lib e pid at ≡ serial_named lib h pid at) → (c : Command) (r : Reply) →
    is_first_touch lib e pid serial p c r ≡ is_some (touch_in lib h pid serial p c r) && not (is_touched (e.processes pid) serial p)
first_is lib e h pid serial p named (commands.Touch at) replies.Fine =
    ap (λ (n : ℕ). (((n == serial) && (at.object == p.object)) && is_among (pages_over at.offset at.len) p.page) && not (is_touched (e.processes pid) serial p)) (named at)
    ∙ three_tests (serial_named lib h pid at == serial) (at.object == p.object) (is_among (pages_over at.offset at.len) p.page) (is_touched (e.processes pid) serial p) at
first_is lib e h pid serial p named c r = refl

some_is : (lib : Library) (e h : Eager) (pid serial : ℕ) (p : PageId) → ((at : Place) → serial_named lib e pid at ≡ serial_named lib h pid at) → (o : Option Item) →
    ((item : Item) → o ≡ Some item → is_command_of pid item ≡ true) →
    some_touches lib e serial p o ≡ is_some (next_touch lib h pid serial p o) && not (is_touched (e.processes pid) serial p)
some_is lib e h pid serial p named None own = refl
some_is lib e h pid serial p named (Some (entry x)) own = refl
some_is lib e h pid serial p named (Some (line q l)) own =
    ap (λ (n : ℕ). is_first_touch lib e n serial p l.command l.reply) (eqb-true q pid (own (line q l) refl)) ∙ first_is lib e h pid serial p named l.command l.reply

found_own : (pid : ℕ) (items : List Item) (item : Item) → find (is_command_of pid) items ≡ Some item → is_command_of pid item ≡ true
found_own pid [] item is = cc
found_own pid (y ∷ ys) item is = step (is_command_of pid y) refl is (found_own pid ys item)
  where
    step : (b : Bool) → is_command_of pid y ≡ b → (if b then Some y else find (is_command_of pid) ys) ≡ Some item →
        (find (is_command_of pid) ys ≡ Some item → is_command_of pid item ≡ true) → is_command_of pid item ≡ true
    step true own is later = (let same : y ≡ item = cc in ap (is_command_of pid) (sym same) ∙ own)
    step false own is later = later is

-- the residence in which the place is
named_in : (lib : Library) (e : Eager) (pid serial : ℕ) (p : PageId) (c : Command) (r : Reply) (place : Place) → touch_in lib e pid serial p c r ≡ Some place → serial_named lib e pid place ≡ serial
named_in lib e pid serial p (commands.Touch at) replies.Fine place is = by_test (covers_in lib e pid serial p at) refl is
  where
    by_test : (b : Bool) → covers_in lib e pid serial p at ≡ b → (if b then Some at else None) ≡ Some place → serial_named lib e pid place ≡ serial
    by_test false e some = cc
    by_test true so some =
        (let same : at ≡ place = cc in ap (serial_named lib e pid) (sym same)) ∙ eqb-true (serial_named lib e pid at) serial (and_left (serial_named lib e pid at == serial) (covers at p) so)
named_in lib e pid serial p c r place is = cc

pub touch_named : (lib : Library) (e : Eager) (pid serial : ℕ) (p : PageId) (o : Option Item) (place : Place) → next_touch lib e pid serial p o ≡ Some place → serial_named lib e pid place ≡ serial
touch_named lib e pid serial p None place is = cc
touch_named lib e pid serial p (Some (entry x)) place is = cc
touch_named lib e pid serial p (Some (line q l)) place is = named_in lib e pid serial p l.command l.reply place is

-- ---- what is done

fault_done : (lib : Library) (contents : Held) (e : Eager) (pid serial m : ℕ) (p : PageId) → deed_of lib contents e pid (fault serial m p) ≡ deeds.Fault serial m p
unfolding deed_of
fault_done lib contents e pid serial m p = refl

-- ---- a fault, judged

module _ (j : Judge) (before after : List Item) (x : Entry) (command : Option Command) (s : Standing) (v : ProcessView) (at : ResidencePage) (deed_is : x.deed ≡ deeds.Fault at.residence.serial at.residence.«module» at.page) (can : CanPlay j before (entry x) command) (stands : StandsAlone j before (entry x ∷ after) s v x.pid) where
  abbrev b : BoardState
  b = s.board

  abbrev told : BoardState
  told = record { library = j.lib; failing = j.failing; history = entries_in before; keeper = b.keeper }

  abbrev asks : Ask
  asks = fault at.residence.serial at.residence.«module» at.page

  board_is : b ≡ told
  board_is = stands.board.is

  pid_is : v.holding.pid ≡ x.pid
  pid_is = stands.view.number

  may_is : may_ask b.library (state_of b) v.holding.pid asks ≡ may_ask j.lib (state_at j before) x.pid (ask_in x.deed)
  may_is =
      ap (λ (c : BoardState). may_ask c.library (state_of c) v.holding.pid asks) board_is
      ∙ (ap (λ (n : ℕ). may_ask j.lib (history_state j before) n asks) pid_is
      ∙ (sym (entries_by_history.may j before x.pid asks) ∙ ap (λ (d : Deed). may_ask j.lib (state_at j before) x.pid (ask_in d)) (sym deed_is)))

  pub refused_alone : may_ask b.library (state_of b) v.holding.pid asks ≡ false → IsPlayedAlone j before (entry x) after s v x.pid (Some kinds.Refused)
  refused_alone not = record {
    judged = inl (refl, λ asked. true≢false (sym asked.may ∙ (sym may_is ∙ not)));
    stands = λ none. cc;
  }

  done : EntryIsDone j before (entry x)
  done =
      deed_is
      ∙ sym (ap (λ (d : Deed). deed_of j.lib j.contents (state_at j before) x.pid (ask_in d)) deed_is ∙ fault_done j.lib j.contents (state_at j before) x.pid at.residence.serial at.residence.«module» at.page)

  first_is_so : is_first_fault (entries_in before) x.deed ≡ not (has_fault b.history at.residence.serial at.page)
  first_is_so = ap (is_first_fault (entries_in before)) deed_is ∙ ap (λ (c : BoardState). not (has_fault c.history at.residence.serial at.page)) (sym board_is)

  abbrev found : Option Item
  found = find (is_command_of x.pid) after

  leads_is :
      fault_leads j.lib (state_at j before) x.pid x.deed after
      ≡ is_some (next_touch j.lib (history_state j before) x.pid at.residence.serial at.page found) && not (is_touched ((state_at j before).processes x.pid) at.residence.serial at.page)
  leads_is =
      ap (λ (d : Deed). fault_leads j.lib (state_at j before) x.pid d after) deed_is
      ∙ some_is j.lib (state_at j before) (history_state j before) x.pid at.residence.serial at.page (named_at j before x.pid) found (found_own x.pid after)

  touch_is : (next : Option Item) → next ≡ next_after (entry x) after →
      next_touch b.library (state_of b) v.holding.pid at.residence.serial at.page next ≡ next_touch j.lib (history_state j before) x.pid at.residence.serial at.page found
  touch_is next is =
      ap (next_touch b.library (state_of b) v.holding.pid at.residence.serial at.page) is
      ∙ (ap (λ (c : BoardState). next_touch c.library (state_of c) v.holding.pid at.residence.serial at.page found) board_is
      ∙ ap (λ (n : ℕ). next_touch j.lib (history_state j before) n at.residence.serial at.page found) pid_is)

  module _ (process : is_among pids v.holding.pid ≡ true) (may : may_ask b.library (state_of b) v.holding.pid asks ≡ true) where
    asked : EntryIsAsked j before (entry x)
    asked = record {
      least = can.least;
      most = can.most;
      process = ap (is_among pids) (sym pid_is) ∙ process;
      may = sym may_is ∙ may;
    }

    wrong_alone : (FaultIsRight j before (entry x) after → ⊥) → IsPlayedAlone j before (entry x) after s v x.pid (Some kinds.Fault)
    wrong_alone never = record {
      judged = inr (asked, inr (done, inl (refl, never)));
      stands = λ none. cc;
    }

    pub had_alone : has_fault b.history at.residence.serial at.page ≡ true → IsPlayedAlone j before (entry x) after s v x.pid (Some kinds.Fault)
    had_alone had = wrong_alone (λ right. true≢false (sym right.0 ∙ (first_is_so ∙ ap not had)))

    pub astray_alone : (next : Option Item) → next ≡ next_after (entry x) after → next_touch b.library (state_of b) v.holding.pid at.residence.serial at.page next ≡ None →
        IsPlayedAlone j before (entry x) after s v x.pid (Some kinds.Fault)
    astray_alone next is none =
        wrong_alone
        (λ right. true≢false
        (sym right.1
        ∙ (leads_is
        ∙ ap (λ (o : Option Place). is_some o && not (is_touched ((state_at j before).processes x.pid) at.residence.serial at.page)) (sym (touch_is next is) ∙ none))))

    pub made_alone : MappedAfterFault → (t : Standing) (w : ProcessView) (next : Option Item) (place : Place) → IsLegal b → has_fault b.history at.residence.serial at.page ≡ false → next ≡ next_after (entry x) after →
        next_touch b.library (state_of b) v.holding.pid at.residence.serial at.page next ≡ Some place → IsFaultMade s t v w at → IsPlayedAlone j before (entry x) after t w x.pid None
    made_alone law t w next place legal first is touches made = record { judged = (asked, (done, (right, ((uses, tt), (tt, tt))))); stands = λ none. there }
      where
        untouched : is_touched ((state_at j before).processes x.pid) at.residence.serial at.page ≡ false
        untouched = by_test (is_touched ((state_at j before).processes x.pid) at.residence.serial at.page) refl
          where
            by_test : (c : Bool) → is_touched ((state_at j before).processes x.pid) at.residence.serial at.page ≡ c → c ≡ false
            by_test false e = refl
            by_test true e =
                absurd
                (true≢false
                (sym (stands.view.mapped.touched at.residence.serial at.page e)
                ∙ stays.unmapped b v at.residence.serial at.residence.«module» at.page legal stands.view.stands may first))

        leads : IsTrue (fault_leads j.lib (state_at j before) x.pid x.deed after)
        leads =
            leads_is
            ∙ (ap (λ (o : Option Place). is_some o && not (is_touched ((state_at j before).processes x.pid) at.residence.serial at.page)) (sym (touch_is next is) ∙ touches)
            ∙ ap not untouched)

        right : FaultIsRight j before (entry x) after
        right = (first_is_so ∙ ap not first, leads)

        uses : IsTrue (uses_touched (state_at j before) x.pid x.deed)
        uses = ap (uses_touched (state_at j before) x.pid) deed_is

        entry_is : residence_fault v at ≡ x
        entry_is i = record { pid = pid_is i; deed = sym deed_is i }

        there : StandsAlone j (before ++ entry x ∷ []) after t w x.pid
        there = record {
          board =
              record {
                is =
                    made.board
                    ∙ (ap (λ (c : BoardState). with_entry c (residence_fault v at)) board_is
                    ∙ (ap (with_entry told) entry_is
                    ∙ ap (λ (h : List Entry). record { library = j.lib; failing = j.failing; history = h; keeper = b.keeper }) (sym (entries_append before (entry x ∷ [])))
                    ∙ ap (λ (n : ℕ). record { library = j.lib; failing = j.failing; history = entries_in (before ++ entry x ∷ []); keeper = n }) (sym (ap (λ (y : BoardState). y.keeper) made.board))));
                contents = stands.board.contents;
                legal = made.legal;
              };
          kept = made.kept;
          view =
              record {
                number = made.number ∙ pid_is;
                stands = made.stands;
                mapped = subst (HasMapped j (before ++ entry x ∷ []) after x.pid) (sym made.mapped)
                    (law j before after x at.residence.serial at.residence.«module» at.page (mapped_pages v.holding) deed_is leads stands.view.mapped);
              };
        }
