use Rattle.std.proofs.Common.{◌≡◌, ◌≤◌, ℕ, false, List, [], bytes_eq, refl, sym, ◌∙◌, ap, arith}
use Rattle.std.proofs.lemmas.Slice.Eq.{bytes_eq-Decides}
use Rattle.std.proofs.lemmas.Bool.{false≢true}
use Rattle.load_model.specs.declared.commands.Reply.TheVariants as replies
use Rattle.load_model.specs.Modules.{bases_for, Order, visit, HealthOf, Entry, followed, Res, number_of, is_library, start_of, inits_each, terms_each, order_of, unfit, entry_spot, resource_of, objects_of, object_at, is_invalid}
use Rattle.base_pick.specs.Places.{places_from}
use Rattle.load_model.specs.State.{with_process, reaches, is_reached, residence_of, attached_residence}
use Rattle.load_model.specs.Entering.{joined, newcomers, resident_ranges, placed_from, placing, after_entering, entering_calls}
use Rattle.load_model.specs.Initialising.{failing_module, failed_calls, enter_deed}
use Rattle.load_model.specs.Leaving.{left, gone_modules, gone, leaving_calls, keeping, after_leaving}
use Rattle.load_model.specs.Memory.{bases_seen, writes_seen, Byte, Bytes}
use Rattle.load_model.specs.Refusals.{module_refusal, enter_refusal, span_refusal, residence_named, place_refusal, query_refusal, resource_refusal, refusal_of}
use Rattle.load_model.specs.Asks.{deed_of, may_ask, after_deed}
use Rattle.load_model.specs.Step.{Answer, entry, steady, address_of, fine_answer, answer_of, after_steady, Step}
use Rattle.load_model.specs.Histories.{state_after, has_fault, Legal}
use Rattle.session_model.specs.Merging.{merge_of, state_after_items}
use Rattle.session_model.proofs.worked.runs_are_not_merged.Goals as goal

differs : (xs ys : List ℕ) → bytes_eq xs ys ≡ false → xs ≡ ys → ⊥
differs xs ys apart same = false≢true (sym apart ∙ (bytes_eq-Decides xs ys).1 same)

abbrev peeked : Answer → List ℕ
peeked (entry deed) = []
peeked (steady (replies.Bytes bytes)) = bytes
peeked (steady replies.Fine) = []
peeked (steady (replies.Address a)) = []
peeked (steady (replies.Spot s)) = []
peeked (steady (replies.Refused why)) = []

pub returns : goal.returns
unfolding number_of is_library start_of inits_each terms_each order_of unfit entry_spot resource_of objects_of object_at is_invalid Order visit HealthOf Entry followed Res places_from with_process reaches is_reached residence_of attached_residence joined newcomers resident_ranges bases_for placed_from placing after_entering entering_calls failing_module failed_calls enter_deed left gone_modules gone leaving_calls keeping after_leaving bases_seen writes_seen Byte Bytes module_refusal enter_refusal span_refusal residence_named place_refusal query_refusal resource_refusal refusal_of deed_of may_ask after_deed address_of fine_answer answer_of after_steady Step state_after has_fault Legal merge_of state_after_items
returns c = record {
  untouched = λ h. (let e = h.replies.1.0.touched in cc);
  write_lost = λ h. differs _ _ refl (ap peeked h.replies.1.1.1.1.0);
  no_fault = λ h. (let e = h.touches.1.0 in cc);
  no_touch = λ h. (let e = h.faults.1.0 in cc);
  left_out = λ h. h.commands.0.1;
  not_asked = λ h. h.commands.0.1;
  ahead = λ h. (let e : 3 ≤ 2 = h.fronts.0.1 in absurd (omega arith));
  falling = λ h. (let e : 2 ≤ 1 = h.fronts.0.2.0 in absurd (omega arith));
}
