use Rattle.std.proofs.Common.{◌≡◌, ◌<◌, ℕ, zero, suc, ◌==◌, ◌||◌, Bool, if◌then◌else◌, codes, List, Some, None, slice_index, option_map, [], ◌∷◌, true, false, refl, arith}
use Rattle.load_model.specs.Modules.{bases_for, Order, visit, HealthOf, Entry, followed, Res, number_of, is_library, start_of, inits_each, terms_each, order_of, unfit, entry_spot, resource_of, objects_of, object_at, is_invalid}
use Rattle.base_pick.specs.Places.{places_from}
use Rattle.load_model.specs.ProcessCounts.{reach_count}
use Rattle.load_model.specs.State.{Residence, count_of, with_process, reaches, is_reached, residence_of, attached_residence}
use Rattle.load_model.specs.Entering.{joined, newcomers, resident_ranges, placed_from, placing, after_entering, entering_calls}
use Rattle.load_model.specs.Initialising.{failing_module, failed_calls, enter_deed}
use Rattle.load_model.specs.Leaving.{left, gone_modules, gone, leaving_calls, keeping, after_leaving}
use Rattle.load_model.specs.Memory.{page, bases_seen, writes_seen, Byte, Bytes}
use Rattle.load_model.specs.Refusals.{module_refusal, enter_refusal, span_refusal, residence_named, place_refusal, query_refusal, resource_refusal, refusal_of}
use Rattle.load_model.specs.Asks.{deed_of, may_ask, after_deed}
use Rattle.load_model.specs.Step.{steady, address_of, fine_answer, answer_of, after_steady, Step}
use Rattle.load_model.specs.Histories.{state_after, has_fault, Follows, Legal}
use Rattle.load_model.specs.declared.commands.Command.TheVariants as commands
use Rattle.load_model.specs.declared.commands.Refusal.TheVariants as why
use Rattle.load_model.specs.declared.commands.Reply.TheVariants as replies
use Rattle.load_model.specs.declared.deeds.Deed.TheVariants.{Free}
use Rattle.load_model.specs.declared.deeds.Entry.{Entry as HistoryEntry}
use Rattle.session_model.specs.WorkedRuns.{entry_of}
use Rattle.load_model.specs.Samples.{zeros, fresh}
use Rattle.load_model.specs.Views.{mapped_pages, fresh_of, IsMapped, StandsFor}
use Rattle.load_model.specs.ViewAnswers.{view_refusal}
use Rattle.session_model.specs.Merging.{merge_of, state_after_items}
use Rattle.merge_laws.specs.Accounts.{own_items, own_state, Account}
use Rattle.merge_laws.specs.MidTouch.{AccountInTouch}
use Rattle.merge_laws.specs.OwnStates.{HasTouched}
use Rattle.merge_laws.specs.WorkedAccounts.{E, at_E, load_new, load_again, fault_by, whole, loads, load_first, in_touch, touched_whole, touched_commands}
use Rattle.merge_laws.specs.WorkedViews.{after_load, mapped_at, at_end, peek_line}
use Rattle.merge_laws.proofs.worked.views_are_told.Goals as goal

one_module : (P : ℕ → Type 0) → P 0 → (m : ℕ) → m < 1 → P m
one_module P first zero below = first
one_module P first (suc m) below = absurd (omega arith)

abbrev stay : Residence
stay = record { serial = 1; «module» = 0; bases = 0x10000000 ∷ []; writes = [] }

-- the one module has a residence, and no other has one
by_number : (b : Bool) → (if b then Some (fresh 1 0 (0x10000000 ∷ [])) else None) ≡ option_map fresh_of (if (b || false) || false then (if b then Some stay else None) else None)
by_number true = refl
by_number false = refl

-- a page of zeros is mapped as it lies there
mapped : (n : ℕ) → IsMapped E zeros (state_after E [] in_touch) 1 (mapped_at n)
unfolding view_refusal number_of is_library start_of inits_each terms_each order_of unfit entry_spot resource_of objects_of object_at is_invalid Order visit HealthOf Entry followed Res places_from with_process reaches is_reached residence_of attached_residence joined newcomers resident_ranges bases_for placed_from placing after_entering entering_calls failing_module failed_calls enter_deed left gone_modules gone leaving_calls keeping after_leaving bases_seen writes_seen Byte Bytes module_refusal enter_refusal span_refusal residence_named place_refusal query_refusal resource_refusal refusal_of deed_of may_ask after_deed address_of fine_answer answer_of after_steady Step state_after has_fault Legal merge_of state_after_items own_items
mapped n = record { residence = stay; there = refl; serial = refl; bytes = λ x here below. refl }

-- the history of the touch after its first fault, and after that of the other process
abbrev one : List HistoryEntry
one = load_new ∷ load_again ∷ fault_by 1 0 ∷ []

abbrev two : List HistoryEntry
two = load_new ∷ load_again ∷ fault_by 1 0 ∷ fault_by 2 1 ∷ []

pub returns : goal.returns
unfolding view_refusal number_of is_library start_of inits_each terms_each order_of unfit entry_spot resource_of objects_of object_at is_invalid Order visit HealthOf Entry followed Res places_from with_process reaches is_reached residence_of attached_residence joined newcomers resident_ranges bases_for placed_from placing after_entering entering_calls failing_module failed_calls enter_deed left gone_modules gone leaving_calls keeping after_leaving bases_seen writes_seen Byte Bytes module_refusal enter_refusal span_refusal residence_named place_refusal query_refusal resource_refusal refusal_of deed_of may_ask after_deed address_of fine_answer answer_of after_steady Step state_after has_fault Legal merge_of state_after_items own_items
returns c =
    let told = c.views_account.ensures in
    let touch = c.views_touch.ensures in
    let grows = c.account_grows.ensures in
    let midst = c.touch_grows.ensures in
    let pages = c.touched_pages_are_followed.ensures in
    let states = c.own_states_are_the_historys.ensures in
    let loaded : StandsFor E [] zeros after_load loads = record {
      front = refl;
      view = record {
        ended = refl;
        counts = record {
          started = refl;
          attached = refl;
          loads_are = refl;
          loads = one_module (λ m. slice_index after_load.counts.loads m ≡ count_of ((state_after E [] loads).processes 1) m) refl;
          reached_are = refl;
          reached = one_module (λ m. slice_index after_load.counts.reached m ≡ reach_count E ((state_after E [] loads).processes 1) m) refl;
        };
        residences = λ m. by_number (0 == m);
        mapped = tt;
        writes = tt;
      };
      faults = tt;
    } in
    let stands : StandsFor E [] zeros at_end in_touch = record {
      front = refl;
      view = record {
        ended = refl;
        counts = record {
          started = refl;
          attached = refl;
          loads_are = refl;
          loads = one_module (λ m. slice_index at_end.counts.loads m ≡ count_of ((state_after E [] in_touch).processes 1) m) refl;
          reached_are = refl;
          reached = one_module (λ m. slice_index at_end.counts.reached m ≡ reach_count E ((state_after E [] in_touch).processes 1) m) refl;
        };
        residences = λ m. by_number (0 == m);
        mapped = (mapped 0, (mapped 1, (mapped 2, tt)));
        writes = tt;
      };
      faults = ((λ m s at same own. refl), ((λ m s at same own. refl), ((λ m s at same own. refl), tt)));
    } in
    let untouched : HasTouched E [] 1 loads [] (mapped_pages after_load) = λ serial q. refl in
    let legal : Legal E [] zeros in_touch = (record { process = refl; may = refl; done = refl; first = refl }, (record { process = refl; may = refl; done = refl; first = refl }, (record { process = refl; may = refl; done = refl; first = refl }, (record { process = refl; may = refl; done = refl; first = refl }, (record { process = refl; may = refl; done = refl; first = refl }, tt))))) in
    let before : Account E [] zeros 1 loads [] load_first =
    grows.residences E [] zeros 1 (load_new ∷ []) [] load_first load_again refl
    (grows.entry E [] zeros 1 [] [] [] load_new (commands.Load _) refl refl (0, refl, refl) (record { may = refl; done = refl; touched = refl }) (grows.begins E [] zeros 1))
    in
    let follows_first : Follows E [] zeros loads (fault_by 1 0) = record { process = refl; may = refl; done = refl; first = refl } in
    let one_fault : AccountInTouch E [] zeros 1 whole one [] load_first =
    midst.faults E [] zeros 1 whole loads [] load_first (fault_by 1 0) refl
    (touch.faults E [] zeros after_load loads [] [] whole 0 (page 1 0) loaded untouched refl refl refl) (states.replies E [] zeros 1 loads [] (fault_by 1 0) follows_first refl)
    (midst.begins E [] zeros 1 whole loads [] load_first before)
    in
    let two_faults : AccountInTouch E [] zeros 1 whole two [] load_first = midst.waits E [] zeros 1 whole one [] load_first (fault_by 2 1) refl one_fault in
    let in_midst : AccountInTouch E [] zeros 1 whole in_touch [] load_first =
    midst.faults E [] zeros 1 whole two [] load_first (fault_by 1 2) refl refl (record { may = refl; done = refl; touched = refl }) two_faults
    in
    let accepted = touch.accepted E [] zeros at_end in_touch [] whole stands refl in
    let told_all : Account E [] zeros 1 in_touch touched_whole touched_commands =
    midst.ends E [] zeros 1 whole in_touch [] load_first (touch.fixed E [] zeros at_end in_touch [] whole stands refl refl) accepted in_midst
    in
    let still : HasTouched E [] 1 in_touch [] [] = λ serial q. refl in
    let touched : HasTouched E [] 1 in_touch touched_whole (mapped_pages at_end) =
    touch.mapped E [] zeros at_end in_touch [] [] (mapped_pages at_end) whole stands still refl (refl, (refl, (refl, tt))) refl
    in
    let peeked : answer_of E zeros (own_state E [] 1 in_touch touched_whole) 1 (commands.Peek (at_E 0 2)) ≡ steady (replies.Bytes (0 ∷ 0 ∷ [])) =
    told.replies E [] zeros at_end in_touch touched_whole (commands.Peek (at_E 0 2)) (replies.Bytes (0 ∷ 0 ∷ [])) legal stands touched refl refl
    in
    record {
      loaded = loaded;
      untouched = untouched;
      refused = told.refusals E [] zeros after_load loads [] (commands.Peek (at_E 0 2)) (why.NotTouched 0) loaded untouched refl;
      started = told.refusals E [] zeros after_load loads [] (commands.Start (codes "E")) why.NotProgram loaded untouched refl;
      stands = stands;
      accepted = accepted;
      told = told_all;
      touched = touched;
      peeked = peeked;
      and_told = grows.line E [] zeros 1 in_touch touched_whole touched_commands peek_line refl refl peeked told_all;
      left = pages.entries E [] 1 in_touch touched_whole (mapped_pages at_end) (entry_of 1 (Free 0 [] [])) told_all.fronts touched;
    }
