use Rattle.std.proofs.Common.{take, drop, refl, lit≤}
use Rattle.std.proofs.lemmas.Bool.{false≢true}
use Rattle.load_model.specs.Modules.{bases_for, Order, visit, HealthOf, Entry, followed, Res, number_of, is_library, start_of, inits_each, terms_each, order_of, unfit, entry_spot, resource_of, objects_of, object_at, is_invalid}
use Rattle.base_pick.specs.Places.{places_from}
use Rattle.load_model.specs.State.{with_process, reaches, is_reached, residence_of, attached_residence}
use Rattle.load_model.specs.Entering.{joined, newcomers, resident_ranges, placed_from, placing, after_entering, entering_calls}
use Rattle.load_model.specs.Initialising.{failing_module, failed_calls, enter_deed}
use Rattle.load_model.specs.Leaving.{left, gone_modules, gone, leaving_calls, keeping, after_leaving}
use Rattle.load_model.specs.Memory.{bases_seen, writes_seen, Byte, Bytes}
use Rattle.load_model.specs.Refusals.{module_refusal, enter_refusal, span_refusal, residence_named, place_refusal, query_refusal, resource_refusal, refusal_of}
use Rattle.load_model.specs.Asks.{deed_of, may_ask, after_deed}
use Rattle.load_model.specs.Step.{address_of, fine_answer, answer_of, after_steady, Step}
use Rattle.load_model.specs.Histories.{state_after, has_fault, Legal}
use Rattle.session_model.specs.Merging.{merge_of, state_after_items}
use Rattle.session_model.specs.WorkedSessions.{commands_of_D}
use Rattle.check_model.proofs.worked.run_is_right.Goals as goal

pub returns : goal.returns
unfolding number_of is_library start_of inits_each terms_each order_of unfit entry_spot resource_of objects_of object_at is_invalid Order visit HealthOf Entry followed Res places_from with_process reaches is_reached residence_of attached_residence joined newcomers resident_ranges bases_for placed_from placing after_entering entering_calls failing_module failed_calls enter_deed left gone_modules gone leaving_calls keeping after_leaving bases_seen writes_seen Byte Bytes module_refusal enter_refusal span_refusal residence_named place_refusal query_refusal resource_refusal refusal_of deed_of may_ask after_deed address_of fine_answer answer_of after_steady Step state_after has_fault Legal merge_of state_after_items
returns c = record {
  of_D = ((refl, (tt, (tt, (tt, (tt, (tt, (tt, (tt, (tt, tt))))))))), ((refl, (tt, (tt, (tt, (tt, (tt, (tt, (tt, (tt, tt))))))))), ((tt, (tt, ((λ _. record { first = take 1 (commands_of_D); left = drop 1 (commands_of_D); all = refl; are = ((0, refl, refl), tt) }), (record { least = lit≤ tt; most = lit≤ tt; process = refl; may = refl }, (refl, ((refl, refl), ((refl, tt), (tt, (tt, tt))))))))), ((tt, (tt, ((λ h. absurd (false≢true h)), (record { least = lit≤ tt; most = lit≤ tt; process = refl; may = refl }, (refl, ((refl, refl), ((refl, tt), (tt, (tt, tt))))))))), ((tt, ((lit≤ tt, lit≤ tt), ((λ _. record { first = take 2 (commands_of_D); left = drop 2 (commands_of_D); all = refl; are = ((0, refl, refl), (refl, tt)) }), (tt, (tt, ((tt, tt), ((tt, refl), (refl, (tt, tt))))))))), ((tt, ((lit≤ tt, lit≤ tt), ((λ _. record { first = take 3 (commands_of_D); left = drop 3 (commands_of_D); all = refl; are = ((0, refl, refl), (refl, (refl, tt))) }), (tt, (tt, ((tt, tt), ((tt, refl), (refl, (tt, tt))))))))), ((tt, (tt, ((λ _. record { first = take 4 (commands_of_D); left = drop 4 (commands_of_D); all = refl; are = ((0, refl, refl), (refl, (refl, ((0, refl, refl), tt)))) }), (record { least = lit≤ tt; most = lit≤ tt; process = refl; may = refl }, (refl, ((refl, refl), ((refl, tt), (tt, (tt, tt))))))))), ((tt, (tt, ((λ _. record { first = take 5 (commands_of_D); left = drop 5 (commands_of_D); all = refl; are = ((0, refl, refl), (refl, (refl, ((0, refl, refl), (refl, tt))))) }), (record { least = lit≤ tt; most = lit≤ tt; process = refl; may = refl }, (refl, ((refl, refl), ((refl, tt), (tt, (tt, tt))))))))), ((tt, (tt, ((((0, refl, refl), (refl, (refl, ((0, refl, refl), (refl, tt))))), tt), (tt, (tt, (tt, (tt, (tt, (refl, tt))))))))), tt)))))))));
  empty = ((refl, (tt, (tt, (tt, (tt, (tt, (tt, (tt, (tt, tt))))))))), ((tt, (tt, (tt, (tt, (tt, (tt, (tt, (tt, (refl, tt))))))))), tt));
}
