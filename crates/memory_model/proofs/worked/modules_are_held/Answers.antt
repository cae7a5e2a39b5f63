use Rattle.std.proofs.Common.{refl}
use Rattle.lx_model.specs.Fixed.{Fixed, Raw, page_bytes, patch_of, sources_of}
use Rattle.lx_model.specs.Reading.{many, many_from}
use Rattle.lx_model.specs.RecordFields.{target_of_kind, additive_at}
use Rattle.lx_model.specs.Records.{next_record, record_at, single_at, list_at}
use Rattle.load_model.specs.Modules.{bases_for, Order, visit, HealthOf, Entry, followed, number_of, is_library, start_of, inits_each, terms_each, order_of, unfit, objects_of, object_at, is_invalid, fixed_bytes}
use Rattle.base_pick.specs.Places.{places_from}
use Rattle.load_model.specs.State.{with_process, reaches, residence_of}
use Rattle.load_model.specs.Entering.{joined, newcomers, resident_ranges, placed_from, placing, after_entering, entering_calls}
use Rattle.load_model.specs.Initialising.{failing_module, enter_deed}
use Rattle.load_model.specs.Memory.{bases_seen, writes_seen, Byte, Bytes}
use Rattle.load_model.specs.Refusals.{module_refusal, enter_refusal, refusal_of}
use Rattle.load_model.specs.Asks.{deed_of, after_deed}
use Rattle.load_model.specs.Step.{fine_answer, answer_of, after_steady, Step}
use Rattle.memory_model.proofs.worked.modules_are_held.Goals as goal

pub returns : goal.returns
unfolding many many_from target_of_kind additive_at bases_for Order visit HealthOf Entry followed number_of is_library start_of inits_each terms_each order_of unfit objects_of object_at is_invalid fixed_bytes places_from with_process reaches residence_of joined newcomers resident_ranges placed_from placing after_entering entering_calls failing_module enter_deed bases_seen writes_seen Byte Bytes module_refusal enter_refusal refusal_of deed_of after_deed fine_answer answer_of after_steady Step Fixed Raw page_bytes patch_of sources_of next_record record_at single_at list_at
returns c = record { loaded = record { brought = refl; is = refl }; started = record { brought = refl; is = refl }; unreached = record { brought = refl; is = refl }; nothing = record { brought = refl; is = refl } }
