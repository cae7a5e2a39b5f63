use Rattle.std.proofs.Common.{refl}
use Rattle.load_model.specs.Modules.{bases_for, Order, visit, HealthOf, Entry, followed, Res, number_of, is_library, start_of, inits_each, terms_each, order_of, unfit, entry_spot, resource_of, objects_of, object_at, is_invalid}
use Rattle.base_pick.specs.Places.{places_from}
use Rattle.load_model.specs.State.{with_process, reaches, is_reached, residence_of, attached_residence}
use Rattle.load_model.specs.Entering.{joined, newcomers, resident_ranges, placed_from, placing, after_entering, entering_calls}
use Rattle.load_model.specs.Initialising.{failing_module, failed_calls, enter_deed}
use Rattle.load_model.specs.Leaving.{left, gone_modules, gone, leaving_calls, keeping, after_leaving}
use Rattle.load_model.specs.Memory.{bases_seen, writes_seen, Byte, Bytes}
use Rattle.load_model.specs.Refusals.{module_refusal, enter_refusal, span_refusal, residence_named, place_refusal, query_refusal, resource_refusal, refusal_of}
use Rattle.load_model.specs.Asks.{deed_of, after_deed}
use Rattle.load_model.specs.Step.{address_of, fine_answer, answer_of, after_steady, Step}
use Rattle.load_model.proofs.worked.refusals_are_ordered.Goals as goal

pub returns-clause-enter : goal.returns-clause-enter
unfolding number_of is_library start_of inits_each terms_each order_of unfit entry_spot resource_of objects_of object_at is_invalid Order visit HealthOf Entry followed Res places_from with_process reaches is_reached residence_of attached_residence joined newcomers resident_ranges bases_for placed_from placing after_entering entering_calls failing_module failed_calls enter_deed left gone_modules gone leaving_calls keeping after_leaving bases_seen writes_seen Byte Bytes module_refusal enter_refusal span_refusal residence_named place_refusal query_refusal resource_refusal refusal_of deed_of after_deed address_of fine_answer answer_of after_steady Step
returns-clause-enter c = record { ended_started = refl; ended_start = refl; ended_load = refl; ended_kind = refl; started_module = refl; started_program = refl; started_health = refl; program_health = refl; library_health = refl; library_count = refl; health_count = refl; count = refl; start_count = refl }

pub returns-clause-ended : goal.returns-clause-ended
unfolding number_of is_library start_of inits_each terms_each order_of unfit entry_spot resource_of objects_of object_at is_invalid Order visit HealthOf Entry followed Res places_from with_process reaches is_reached residence_of attached_residence joined newcomers resident_ranges bases_for placed_from placing after_entering entering_calls failing_module failed_calls enter_deed left gone_modules gone leaving_calls keeping after_leaving bases_seen writes_seen Byte Bytes module_refusal enter_refusal span_refusal residence_named place_refusal query_refusal resource_refusal refusal_of deed_of after_deed address_of fine_answer answer_of after_steady Step
returns-clause-ended c = record { start = refl; load = refl; free = refl; touch = refl; peek = refl; shared = refl; write = refl; debug = refl; query = refl; getres = refl; exit = refl }

pub returns-clause-places : goal.returns-clause-places
unfolding number_of is_library start_of inits_each terms_each order_of unfit entry_spot resource_of objects_of object_at is_invalid Order visit HealthOf Entry followed Res places_from with_process reaches is_reached residence_of attached_residence joined newcomers resident_ranges bases_for placed_from placing after_entering entering_calls failing_module failed_calls enter_deed left gone_modules gone leaving_calls keeping after_leaving bases_seen writes_seen Byte Bytes module_refusal enter_refusal span_refusal residence_named place_refusal query_refusal resource_refusal refusal_of deed_of after_deed address_of fine_answer answer_of after_steady Step
returns-clause-places c = record { touch_attached = refl; peek_attached = refl; shared_attached = refl; write_attached = refl; debug_attached = refl; write_range = refl; peek_range = refl; shared_range = refl; debug_range = refl; read_only = refl; is_shared = refl; not_shared = refl; own_not_shared = refl; not_code = refl; shared_not_code = refl; touch_past = refl; write_invalid = refl; peek_invalid = refl; shared_invalid = refl; debug_invalid = refl; write_untouched = refl; query_attached = refl; getres_attached = refl }
