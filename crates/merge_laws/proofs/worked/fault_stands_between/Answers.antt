use Rattle.load_model.specs.Samples.{zeros}
use Rattle.std.proofs.Common.{◌≡◌, [], true, false, true≢false, refl, sym, lit≤}
use Rattle.load_model.specs.Modules.{bases_for, Order, visit, HealthOf, Entry, followed, Res, number_of, is_library, start_of, inits_each, terms_each, order_of, unfit, entry_spot, resource_of, objects_of, object_at, is_invalid}
use Rattle.base_pick.specs.Places.{places_from}
use Rattle.load_model.specs.State.{with_process, reaches, is_reached, residence_of, attached_residence}
use Rattle.load_model.specs.Entering.{joined, newcomers, resident_ranges, placed_from, placing, after_entering, entering_calls}
use Rattle.load_model.specs.Initialising.{failing_module, failed_calls, enter_deed}
use Rattle.load_model.specs.Leaving.{left, gone_modules, gone, leaving_calls, keeping, after_leaving}
use Rattle.load_model.specs.Memory.{bases_seen, writes_seen, Byte, Bytes}
use Rattle.load_model.specs.Refusals.{module_refusal, enter_refusal, span_refusal, residence_named, place_refusal, query_refusal, resource_refusal, refusal_of}
use Rattle.load_model.specs.Asks.{deed_of, may_ask, after_deed}
use Rattle.load_model.specs.Step.{address_of, fine_answer, answer_of, after_steady, Step}
use Rattle.load_model.specs.Histories.{state_after, has_fault, Legal}
use Rattle.session_model.specs.Merging.{merge_of, state_after_items}
use Rattle.merge_laws.specs.Accounts.{own_items, Account}
use Rattle.merge_laws.specs.WorkedAccounts.{E, between, lines_of_first, commands_of_first, lines_of_second, commands_of_second}
use Rattle.merge_laws.proofs.worked.fault_stands_between.Goals as goal

-- an item of another process
others : {A : Type 0} → false ≡ true → A
others e = absurd (true≢false (sym e))

pub returns : goal.returns
unfolding number_of is_library start_of inits_each terms_each order_of unfit entry_spot resource_of objects_of object_at is_invalid Order visit HealthOf Entry followed Res places_from with_process reaches is_reached residence_of attached_residence joined newcomers resident_ranges bases_for placed_from placing after_entering entering_calls failing_module failed_calls enter_deed left gone_modules gone leaving_calls keeping after_leaving bases_seen writes_seen Byte Bytes module_refusal enter_refusal span_refusal residence_named place_refusal query_refusal resource_refusal refusal_of deed_of may_ask after_deed address_of fine_answer answer_of after_steady Step state_after has_fault Legal merge_of state_after_items own_items
returns c =
    let first : Account E [] zeros 1 between lines_of_first commands_of_first = record {
      fronts = (lit≤ tt, lit≤ tt, (lit≤ tt, lit≤ tt, tt));
      commands = ((0, refl, refl), (refl, (refl, tt)));
      faults = ((λ mine. refl), (others, ((λ mine. refl), ((λ mine. tt), (others, ((λ mine. tt), tt))))));
      touches = ((λ mine. tt), (others, ((λ mine. tt), ((λ mine. refl), (others, ((λ mine. refl), tt))))));
      replies = ((λ mine. record { may = refl; done = refl; touched = refl }), (others, ((λ mine. record { may = refl; done = refl; touched = refl }), ((λ mine. refl), (others, ((λ mine. refl), tt))))));
    } in
    let second : Account E [] zeros 2 between lines_of_second commands_of_second = record {
      fronts = (lit≤ tt, lit≤ tt, (lit≤ tt, lit≤ tt, tt));
      commands = ((0, refl, refl), (refl, (refl, tt)));
      faults = (others, ((λ mine. refl), (others, ((λ mine. refl), ((λ mine. tt), ((λ mine. tt), tt))))));
      touches = (others, ((λ mine. tt), (others, ((λ mine. tt), ((λ mine. refl), ((λ mine. refl), tt))))));
      replies = (others, ((λ mine. record { may = refl; done = refl; touched = refl }), (others, ((λ mine. record { may = refl; done = refl; touched = refl }), ((λ mine. refl), ((λ mine. refl), tt))))));
    } in
    record {
      legal = (record { process = refl; may = refl; done = refl; first = refl }, (record { process = refl; may = refl; done = refl; first = refl }, (record { process = refl; may = refl; done = refl; first = refl }, (record { process = refl; may = refl; done = refl; first = refl }, tt))));
      first = first;
      second = second;
      merge = record {
        processes = refl;
        entries = ((lit≤ tt, lit≤ tt), ((lit≤ tt, lit≤ tt), ((lit≤ tt, lit≤ tt), ((lit≤ tt, lit≤ tt), tt))));
        fronts = ((lit≤ tt, lit≤ tt, (lit≤ tt, lit≤ tt, tt)), ((lit≤ tt, lit≤ tt, (lit≤ tt, lit≤ tt, tt)), tt));
        commands = (((0, refl, refl), (refl, (refl, tt))), (((0, refl, refl), (refl, (refl, tt))), tt));
        faults = (refl, (refl, (refl, (tt, (refl, (tt, (tt, (tt, tt))))))));
        touches = (tt, (tt, (tt, (refl, (tt, (refl, (refl, (refl, tt))))))));
        replies = (record { may = refl; done = refl; touched = refl }, (record { may = refl; done = refl; touched = refl }, (record { may = refl; done = refl; touched = refl }, (refl, (record { may = refl; done = refl; touched = refl }, (refl, (refl, (refl, tt))))))));
      };
      unseen = λ a. cc (a.replies.1.1.1.1.1.0 refl);
      not_led = λ a. others (a.faults.1.1.1.1.0 refl);
    }
