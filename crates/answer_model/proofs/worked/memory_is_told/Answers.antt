use Rattle.std.proofs.Common.{inl, inr, refl, [], ◌∷◌}
use Rattle.std.specs.Fmt.{digits}
use Rattle.lx_model.specs.Fixed.{Fixed, Raw, page_bytes, patch_of, sources_of}
use Rattle.lx_model.specs.Gathering.{LibraryFault}
use Rattle.lx_model.specs.Reading.{many, many_from}
use Rattle.lx_model.specs.RecordFields.{target_of_kind, additive_at}
use Rattle.lx_model.specs.Records.{next_record, record_at, single_at, list_at}
use Rattle.load_model.specs.Modules.{bases_for, Order, visit, HealthOf, Entry, followed, number_of, is_library, start_of, inits_each, terms_each, order_of, unfit, objects_of, object_at, is_invalid, fixed_bytes}
use Rattle.base_pick.specs.Places.{places_from}
use Rattle.load_model.specs.State.{with_process, reaches, residence_of}
use Rattle.load_model.specs.Entering.{joined, newcomers, resident_ranges, placed_from, placing, after_entering, entering_calls}
use Rattle.load_model.specs.Initialising.{failing_module, enter_deed}
use Rattle.load_model.specs.Memory.{bases_seen, writes_seen, Byte, Bytes}
use Rattle.load_model.specs.Refusals.{module_refusal, enter_refusal, refusal_of}
use Rattle.load_model.specs.Asks.{deed_of, after_deed}
use Rattle.load_model.specs.Step.{fine_answer, answer_of, after_steady, Step}
use Rattle.memory_model.specs.Memory.{entered, memory_after}
use Rattle.memory_model.specs.declared.held.MemoryRefusal.TheVariants.{NoModule}
use Rattle.answer_model.specs.MemoryAnswer.{object_line, invalid_line}
use Rattle.answer_model.specs.WorkedMemory.{imported, importing}
use Rattle.answer_model.proofs.worked.memory_is_told.Goals as goal

pub returns : goal.returns
unfolding digits many many_from target_of_kind additive_at bases_for Order visit HealthOf Entry followed number_of is_library start_of inits_each terms_each order_of unfit objects_of object_at is_invalid fixed_bytes places_from with_process reaches residence_of joined newcomers resident_ranges placed_from placing after_entering entering_calls failing_module enter_deed bases_seen writes_seen Byte Bytes module_refusal enter_refusal refusal_of deed_of after_deed fine_answer answer_of after_steady Step Fixed Raw page_bytes patch_of sources_of next_record record_at single_at list_at LibraryFault object_line invalid_line
returns c = record {
  words = refl;
  no_words = refl;
  lines = refl;
  both = inl (record { found = memory_after (importing ∷ imported ∷ []) (entered (importing ∷ imported ∷ [])).0; is = record { brought = refl; is = refl }; told = refl });
  not_given = inr (record { why = NoModule; refuses = refl; told = refl });
  one_name = refl;
  no_room = refl;
}
