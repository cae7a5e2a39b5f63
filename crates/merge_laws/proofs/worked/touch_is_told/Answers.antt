use Rattle.std.proofs.Common.{[], ◌∷◌, true≢false, refl, sym}
use Rattle.load_model.specs.Modules.{bases_for, Order, visit, HealthOf, Entry, followed, Res, number_of, is_library, start_of, inits_each, terms_each, order_of, unfit, entry_spot, resource_of, objects_of, object_at, is_invalid}
use Rattle.base_pick.specs.Places.{places_from}
use Rattle.load_model.specs.State.{with_process, reaches, is_reached, residence_of, attached_residence}
use Rattle.load_model.specs.Entering.{joined, newcomers, resident_ranges, placed_from, placing, after_entering, entering_calls}
use Rattle.load_model.specs.Initialising.{failing_module, failed_calls, enter_deed}
use Rattle.load_model.specs.Leaving.{left, gone_modules, gone, leaving_calls, keeping, after_leaving}
use Rattle.load_model.specs.Memory.{bases_seen, writes_seen, Byte, Bytes}
use Rattle.load_model.specs.Refusals.{module_refusal, enter_refusal, span_refusal, residence_named, place_refusal, query_refusal, resource_refusal, refusal_of}
use Rattle.load_model.specs.Asks.{deed_of, may_ask, after_deed}
use Rattle.load_model.specs.Step.{address_of, fine_answer, answer_of, after_steady, Step}
use Rattle.load_model.specs.Histories.{state_after, has_fault, Legal}
use Rattle.session_model.specs.Merging.{merge_of, state_after_items}
use Rattle.merge_laws.specs.Accounts.{own_items, Account}
use Rattle.load_model.specs.declared.commands.Command.TheVariants as commands
use Rattle.load_model.specs.Samples.{zeros}
use Rattle.session_model.specs.WorkedRuns.{entry_of}
use Rattle.load_model.specs.declared.deeds.Deed.TheVariants.{Free}
use Rattle.merge_laws.specs.Accounts.{own_items, Account}
use Rattle.merge_laws.specs.MidTouch.{AccountInTouch}
use Rattle.merge_laws.specs.WorkedAccounts.{E, load_new, load_again, fault_by, whole, loads, load_first, in_touch, touched_whole, three_pages, touched_commands, break_by, at_E}
use Rattle.merge_laws.proofs.OwnStates.{touched_goes_on}
use Rattle.merge_laws.proofs.Steps.{account_begins, others_entry_stays, own_entry_adds, touch_begins, touch_goes_on, touch_faults, touch_ends, account_goes_on}
use Rattle.merge_laws.proofs.worked.touch_is_told.Goals as goal

pub returns : goal.returns
unfolding number_of is_library start_of inits_each terms_each order_of unfit entry_spot resource_of objects_of object_at is_invalid Order visit HealthOf Entry followed Res places_from with_process reaches is_reached residence_of attached_residence joined newcomers resident_ranges bases_for placed_from placing after_entering entering_calls failing_module failed_calls enter_deed left gone_modules gone leaving_calls keeping after_leaving bases_seen writes_seen Byte Bytes module_refusal enter_refusal span_refusal residence_named place_refusal query_refusal resource_refusal refusal_of deed_of may_ask after_deed address_of fine_answer answer_of after_steady Step state_after has_fault Legal merge_of state_after_items own_items
returns c =
    let begins : Account E [] zeros 1 [] [] [] = account_begins E [] zeros 1 in
    let loading : Account E [] zeros 1 (load_new ∷ []) [] load_first =
    own_entry_adds E [] zeros 1 [] [] [] load_new (commands.Load _) refl refl (0, refl, refl) (record { may = refl; done = refl; touched = refl }) begins
    in
    let loaded : Account E [] zeros 1 loads [] load_first = others_entry_stays E [] zeros 1 (load_new ∷ []) [] load_first load_again refl loading in
    let begun : AccountInTouch E [] zeros 1 whole loads [] load_first = touch_begins E [] zeros 1 whole loads [] load_first loaded in
    let first : AccountInTouch E [] zeros 1 whole (load_new ∷ load_again ∷ fault_by 1 0 ∷ []) [] load_first =
    touch_faults E [] zeros 1 whole loads [] load_first (fault_by 1 0) refl refl (record { may = refl; done = refl; touched = refl }) begun
    in
    let waited : AccountInTouch E [] zeros 1 whole (load_new ∷ load_again ∷ fault_by 1 0 ∷ fault_by 2 1 ∷ []) [] load_first =
    touch_goes_on E [] zeros 1 whole (load_new ∷ load_again ∷ fault_by 1 0 ∷ []) (fault_by 2 1 ∷ []) [] load_first (refl, tt) first
    in
    let waiting : AccountInTouch E [] zeros 1 whole in_touch [] load_first =
    touch_faults E [] zeros 1 whole (load_new ∷ load_again ∷ fault_by 1 0 ∷ fault_by 2 1 ∷ []) [] load_first (fault_by 1 2) refl refl (record { may = refl; done = refl; touched = refl }) waited
    in
    let ended : Account E [] zeros 1 in_touch touched_whole touched_commands = touch_ends E [] zeros 1 whole in_touch [] load_first refl refl waiting in
    record {
      legal = (record { process = refl; may = refl; done = refl; first = refl }, (record { process = refl; may = refl; done = refl; first = refl }, (record { process = refl; may = refl; done = refl; first = refl }, (record { process = refl; may = refl; done = refl; first = refl }, (record { process = refl; may = refl; done = refl; first = refl }, (record { process = refl; may = refl; done = refl; first = refl }, tt))))));
      loaded = loaded;
      begun = begun;
      waiting = waiting;
      ended = ended;
      stays = account_goes_on E [] zeros 1 in_touch (entry_of 2 (Free 0 [] []) ∷ []) touched_whole touched_commands (refl, tt) ended;
      broken = own_entry_adds E [] zeros 1 in_touch touched_whole touched_commands (break_by 1) (commands.Debug (at_E 0 1) (0xCC ∷ [])) refl refl (0, 1, refl, refl) (record { may = refl; done = refl; touched = refl }) ended;
      touched = touched_goes_on E [] 1 in_touch (entry_of 2 (Free 0 [] []) ∷ []) touched_whole three_pages ended.fronts (refl, tt) (λ serial q. refl);
      midst = λ a. true≢false (sym (a.faults.1.1.0 refl));
      again = λ is. true≢false (sym is);
      unbroken = λ a. true≢false (sym (a.replies.1.0 refl).touched);
    }
