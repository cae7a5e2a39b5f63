use Rattle.std.proofs.Common.{◌≡◌, ◌≤◌, ℕ, false, List, [], bytes_eq, refl, sym, ◌∙◌, lit≤, arith}
use Rattle.std.proofs.lemmas.Slice.Eq.{bytes_eq-Decides}
use Rattle.std.proofs.lemmas.Bool.{false≢true}
use Rattle.load_model.specs.Modules.{bases_for, Order, visit, HealthOf, Entry, followed, Res, number_of, is_library, start_of, inits_each, terms_each, order_of, unfit, entry_spot, resource_of, objects_of, object_at, is_invalid}
use Rattle.base_pick.specs.Places.{places_from}
use Rattle.load_model.specs.State.{with_process, reaches, is_reached, residence_of, attached_residence}
use Rattle.load_model.specs.Entering.{joined, newcomers, resident_ranges, placed_from, placing, after_entering, entering_calls}
use Rattle.load_model.specs.Initialising.{failing_module, failed_calls, enter_deed}
use Rattle.load_model.specs.Leaving.{left, gone_modules, gone, leaving_calls, keeping, after_leaving}
use Rattle.load_model.specs.Memory.{bases_seen, writes_seen, Byte, Bytes}
use Rattle.load_model.specs.Refusals.{module_refusal, enter_refusal, span_refusal, residence_named, place_refusal, query_refusal, resource_refusal, refusal_of}
use Rattle.load_model.specs.Asks.{deed_of, may_ask, after_deed}
use Rattle.load_model.specs.Histories.{state_after, has_fault, Legal}
use Rattle.session_model.specs.Merging.{merge_of, state_after_items}
use Rattle.load_model.specs.Step.{address_of, fine_answer, answer_of, after_steady, Step}
use Rattle.session_model.proofs.worked.runs_are_merged.Goals as goal

differs : (xs ys : List ℕ) → bytes_eq xs ys ≡ false → xs ≡ ys → ⊥
differs xs ys apart same = false≢true (sym apart ∙ (bytes_eq-Decides xs ys).1 same)

pub returns-clause-merges : goal.returns-clause-merges
unfolding number_of is_library start_of inits_each terms_each order_of unfit entry_spot resource_of objects_of object_at is_invalid Order visit HealthOf Entry followed Res places_from with_process reaches is_reached residence_of attached_residence joined newcomers resident_ranges bases_for placed_from placing after_entering entering_calls failing_module failed_calls enter_deed left gone_modules gone leaving_calls keeping after_leaving bases_seen writes_seen Byte Bytes module_refusal enter_refusal span_refusal residence_named place_refusal query_refusal resource_refusal refusal_of deed_of may_ask after_deed address_of fine_answer answer_of after_steady Step state_after has_fault Legal merge_of state_after_items
returns-clause-merges c = record {
  write = record {
    processes = refl;
    entries = ((lit≤ tt, lit≤ tt), ((lit≤ tt, lit≤ tt), ((lit≤ tt, lit≤ tt), tt)));
    fronts = ((lit≤ tt, lit≤ tt, tt), tt);
    commands = (((0, refl, refl), ((1, refl, refl), (refl, ((0, 1, refl, refl), tt)))), tt);
    faults = (refl, (refl, (tt, (refl, tt))));
    touches = (tt, (tt, (refl, (tt, tt))));
    replies = (record { may = refl; done = refl; touched = refl }, (record { may = refl; done = refl; touched = refl }, (refl, (record { may = refl; done = refl; touched = refl }, tt))));
  };
  shared = record {
    processes = refl;
    entries = ((lit≤ tt, lit≤ tt), ((lit≤ tt, lit≤ tt), ((lit≤ tt, lit≤ tt), ((lit≤ tt, lit≤ tt), tt))));
    fronts = ((lit≤ tt, lit≤ tt, tt), tt);
    commands = (((0, refl, refl), ((1, refl, refl), (refl, ((0, 1, refl, refl), tt)))), tt);
    faults = (refl, (refl, (refl, (tt, (refl, tt)))));
    touches = (tt, (tt, (tt, (refl, (tt, tt)))));
    replies = (record { may = refl; done = refl; touched = refl }, (record { may = refl; done = refl; touched = refl }, (record { may = refl; done = refl; touched = refl }, (refl, (record { may = refl; done = refl; touched = refl }, tt)))));
  };
  pages = record {
    processes = refl;
    entries = ((lit≤ tt, lit≤ tt), ((lit≤ tt, lit≤ tt), ((lit≤ tt, lit≤ tt), ((lit≤ tt, lit≤ tt), tt))));
    fronts = ((lit≤ tt, lit≤ tt, tt), tt);
    commands = (((0, refl, refl), ((1, refl, refl), (refl, tt))), tt);
    faults = (refl, (refl, (refl, (refl, (tt, tt)))));
    touches = (tt, (tt, (tt, (tt, (refl, tt)))));
    replies = (record { may = refl; done = refl; touched = refl }, (record { may = refl; done = refl; touched = refl }, (record { may = refl; done = refl; touched = refl }, (record { may = refl; done = refl; touched = refl }, (refl, tt)))));
  };
  residences = record {
    processes = refl;
    entries = ((lit≤ tt, lit≤ tt), ((lit≤ tt, lit≤ tt), ((lit≤ tt, lit≤ tt), ((lit≤ tt, lit≤ tt), tt))));
    fronts = ((lit≤ tt, lit≤ tt, (lit≤ tt, lit≤ tt, tt)), tt);
    commands = (((0, refl, refl), ((1, refl, refl), (refl, (refl, tt)))), tt);
    faults = (refl, (refl, (refl, (tt, (refl, (tt, tt))))));
    touches = (tt, (tt, (tt, (refl, (tt, (refl, tt))))));
    replies = (record { may = refl; done = refl; touched = refl }, (record { may = refl; done = refl; touched = refl }, (record { may = refl; done = refl; touched = refl }, (refl, (record { may = refl; done = refl; touched = refl }, (refl, tt))))));
  };
}

pub returns-clause-none : goal.returns-clause-none
unfolding number_of is_library start_of inits_each terms_each order_of unfit entry_spot resource_of objects_of object_at is_invalid Order visit HealthOf Entry followed Res places_from with_process reaches is_reached residence_of attached_residence joined newcomers resident_ranges bases_for placed_from placing after_entering entering_calls failing_module failed_calls enter_deed left gone_modules gone leaving_calls keeping after_leaving bases_seen writes_seen Byte Bytes module_refusal enter_refusal span_refusal residence_named place_refusal query_refusal resource_refusal refusal_of deed_of may_ask after_deed address_of fine_answer answer_of after_steady Step state_after has_fault Legal merge_of state_after_items
returns-clause-none c = record {
  write_untouched = λ h. (let e = h.replies.1.1.0.touched in cc);
  shared_untouched = λ h. (let e = h.replies.1.1.0.touched in cc);
  write_beside = λ h. (let e = h.replies.1.1.1.0.touched in cc);
  other_page = λ h. (let e = h.faults.1.1.0 in cc);
  other_object = λ h. (let e = h.faults.1.1.0 in cc);
  other_residence = λ h. (let e = h.faults.1.1.0 in cc);
  touched_before = λ h. (let e = h.faults.1.1.1.1.0 in cc);
  no_touch = λ h. (let e = h.faults.1.1.0 in cc);
  half_faulted = λ h. (let e = h.touches.1.1.1.0 in cc);
  fault_of_object = λ h. (let e = h.touches.1.1.1.1.0 in cc);
  fault_of_residence = λ h. (let e = h.touches.1.1.1.1.0 in cc);
}

pub returns-clause-processes : goal.returns-clause-processes
unfolding number_of is_library start_of inits_each terms_each order_of unfit entry_spot resource_of objects_of object_at is_invalid Order visit HealthOf Entry followed Res places_from with_process reaches is_reached residence_of attached_residence joined newcomers resident_ranges bases_for placed_from placing after_entering entering_calls failing_module failed_calls enter_deed left gone_modules gone leaving_calls keeping after_leaving bases_seen writes_seen Byte Bytes module_refusal enter_refusal span_refusal residence_named place_refusal query_refusal resource_refusal refusal_of deed_of may_ask after_deed address_of fine_answer answer_of after_steady Step state_after has_fault Legal merge_of state_after_items
returns-clause-processes c = record {
  one = record {
    processes = refl;
    entries = ((lit≤ tt, lit≤ tt), tt);
    fronts = (tt, tt);
    commands = ((refl, tt), tt);
    faults = (refl, tt);
    touches = (tt, tt);
    replies = (record { may = refl; done = refl; touched = refl }, tt);
  };
  two = record {
    processes = refl;
    entries = ((lit≤ tt, lit≤ tt), ((lit≤ tt, lit≤ tt), tt));
    fronts = (tt, (tt, tt));
    commands = ((refl, tt), ((refl, tt), tt));
    faults = (refl, (refl, tt));
    touches = (tt, (tt, tt));
    replies = (record { may = refl; done = refl; touched = refl }, (record { may = refl; done = refl; touched = refl }, tt));
  };
  other_lines = λ h. differs _ _ refl h.processes;
  lines_swapped = λ h. differs _ _ refl h.processes;
  no_list = λ h. differs _ _ refl h.processes;
  more_lists = λ h. differs _ _ refl h.processes;
  process_2 = λ h. (let e : 2 ≤ 1 = h.entries.1.0.1 in absurd (omega arith));
  process_0 = λ h. (let e : 1 ≤ 0 = h.entries.0.0 in absurd (omega arith));
  no_script = λ h. (let e : 1 ≤ 0 = h.entries.0.1 in absurd (omega arith));
}
