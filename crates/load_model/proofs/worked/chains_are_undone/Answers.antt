use Rattle.std.proofs.Common.{refl}
use Rattle.load_model.specs.Modules.{bases_for, Order, visit, HealthOf, Entry, followed, Res, number_of, is_library, start_of, inits_each, terms_each, order_of, unfit, entry_spot, resource_of, objects_of, object_at, is_invalid}
use Rattle.base_pick.specs.Places.{places_from}
use Rattle.load_model.specs.State.{with_process, reaches, is_reached, residence_of, attached_residence}
use Rattle.load_model.specs.Entering.{joined, newcomers, resident_ranges, placed_from, placing, after_entering, entering_calls}
use Rattle.load_model.specs.Initialising.{failing_module, failed_calls, enter_deed}
use Rattle.load_model.specs.Leaving.{left, gone_modules, gone, leaving_calls, keeping, after_leaving}
use Rattle.load_model.specs.Memory.{bases_seen, writes_seen, Byte, Bytes}
use Rattle.load_model.specs.Refusals.{module_refusal, enter_refusal, span_refusal, residence_named, place_refusal, query_refusal, resource_refusal, refusal_of}
use Rattle.load_model.specs.Asks.{deed_of, after_deed}
use Rattle.load_model.specs.Step.{address_of, fine_answer, answer_of, after_steady, Step}
use Rattle.load_model.proofs.worked.chains_are_undone.Goals as goal

pub returns-clause-chains : goal.returns-clause-chains
unfolding number_of is_library start_of inits_each terms_each order_of unfit entry_spot resource_of objects_of object_at is_invalid Order visit HealthOf Entry followed Res places_from with_process reaches is_reached residence_of attached_residence joined newcomers resident_ranges bases_for placed_from placing after_entering entering_calls failing_module failed_calls enter_deed left gone_modules gone leaving_calls keeping after_leaving bases_seen writes_seen Byte Bytes module_refusal enter_refusal span_refusal residence_named place_refusal query_refusal resource_refusal refusal_of deed_of after_deed address_of fine_answer answer_of after_steady Step
returns-clause-chains c = record { last = refl; middle = refl; first = refl; standing = refl; terminated = refl; called = refl; fails_there = refl; not_called = refl }

pub returns-clause-two : goal.returns-clause-two
unfolding number_of is_library start_of inits_each terms_each order_of unfit entry_spot resource_of objects_of object_at is_invalid Order visit HealthOf Entry followed Res places_from with_process reaches is_reached residence_of attached_residence joined newcomers resident_ranges bases_for placed_from placing after_entering entering_calls failing_module failed_calls enter_deed left gone_modules gone leaving_calls keeping after_leaving bases_seen writes_seen Byte Bytes module_refusal enter_refusal span_refusal residence_named place_refusal query_refusal resource_refusal refusal_of deed_of after_deed address_of fine_answer answer_of after_steady Step
returns-clause-two c = record { first = refl; other_order = refl; not_own = refl; all = refl; started = refl }
