use Rattle.std.proofs.Common.{◌≡◌, ℕ, false, List, [], ◌∷◌, ◌++◌, map, flat_map, bytes_eq, refl, sym, ◌∙◌, ap}
use Rattle.std.proofs.lemmas.Slice.Eq.{bytes_eq-Decides}
use Rattle.std.proofs.lemmas.Bool.{false≢true}
use Rattle.load_model.specs.declared.deeds.CallKind.{CallKind}
use Rattle.load_model.specs.declared.deeds.CallKind.TheVariants as kinds
use Rattle.load_model.specs.declared.deeds.Deed.{Deed}
use Rattle.load_model.specs.declared.deeds.Deed.TheVariants as deeds
use Rattle.load_model.specs.Modules.{bases_for, Order, visit, HealthOf, Entry, followed, Res, number_of, is_library, start_of, inits_each, terms_each, order_of, unfit, entry_spot, resource_of, objects_of, object_at, is_invalid}
use Rattle.base_pick.specs.Places.{places_from}
use Rattle.load_model.specs.State.{with_process, reaches, is_reached, residence_of, attached_residence}
use Rattle.load_model.specs.Entering.{joined, newcomers, resident_ranges, placed_from, placing, after_entering, entering_calls}
use Rattle.load_model.specs.Initialising.{failing_module, failed_calls, enter_deed}
use Rattle.load_model.specs.Leaving.{left, gone_modules, gone, leaving_calls, keeping, after_leaving}
use Rattle.load_model.specs.Memory.{bases_seen, writes_seen, Byte, Bytes}
use Rattle.load_model.specs.Refusals.{module_refusal, enter_refusal, span_refusal, residence_named, place_refusal, query_refusal, resource_refusal, refusal_of}
use Rattle.load_model.specs.Asks.{deed_of, may_ask, after_deed}
use Rattle.load_model.specs.Step.{address_of, fine_answer, answer_of, after_steady, Step}
use Rattle.load_model.specs.Histories.{state_after, has_fault, Legal}
use Rattle.session_model.proofs.worked.entries_are_not_done.Goals as goal

-- what an entry tells, in numbers
abbrev kind_of : CallKind → ℕ
kind_of kinds.Init = 0
kind_of kinds.Term = 1
kind_of kinds.Main = 2

abbrev told : Deed → List ℕ
told (deeds.Enter how m fresh calls) = 0 ∷ m ∷ flat_map (λ f. f.serial ∷ f.«module» ∷ f.bases) fresh ++ flat_map (λ c. kind_of c.kind ∷ c.serial ∷ c.address ∷ []) calls
told (deeds.Failed how m by fresh calls gone) =
    1 ∷ m ∷ by ∷ flat_map (λ f. f.serial ∷ f.«module» ∷ f.bases) fresh ++ flat_map (λ c. kind_of c.kind ∷ c.serial ∷ c.address ∷ []) calls ++ map (λ g. g.serial) gone
told (deeds.Free m calls gone) = 2 ∷ map (λ g. g.serial) gone
told (deeds.Exit calls gone) = 3 ∷ map (λ g. g.serial) gone
told (deeds.Full how m of object size) = []
told (deeds.Fault serial m p) = []
told (deeds.Write serial m object offset bytes) = []
told (deeds.Debug serial m object offset bytes) = []
told (deeds.Shared serial m object offset bytes) = []

differs : (xs ys : List ℕ) → bytes_eq xs ys ≡ false → xs ≡ ys → ⊥
differs xs ys apart same = false≢true (sym apart ∙ (bytes_eq-Decides xs ys).1 same)

pub returns : goal.returns
unfolding number_of is_library start_of inits_each terms_each order_of unfit entry_spot resource_of objects_of object_at is_invalid Order visit HealthOf Entry followed Res places_from with_process reaches is_reached residence_of attached_residence joined newcomers resident_ranges bases_for placed_from placing after_entering entering_calls failing_module failed_calls enter_deed left gone_modules gone leaving_calls keeping after_leaving bases_seen writes_seen Byte Bytes module_refusal enter_refusal span_refusal residence_named place_refusal query_refusal resource_refusal refusal_of deed_of may_ask after_deed address_of fine_answer answer_of after_steady Step state_after has_fault Legal
returns c = record {
  serial = λ h. differs _ _ refl (ap told h.0.done);
  base = λ h. differs _ _ refl (ap told h.0.done);
  nothing_new = λ h. differs _ _ refl (ap told h.0.done);
  new_again = λ h. differs _ _ refl (ap told h.1.0.done);
  stays = λ h. differs _ _ refl (ap told h.1.0.done);
  goes = λ h. differs _ _ refl (ap told h.1.1.0.done);
  init_missing = λ h. differs _ _ refl (ap told h.0.done);
  init_order = λ h. differs _ _ refl (ap told h.0.done);
  init_again = λ h. differs _ _ refl (ap told h.1.0.done);
  failed_for_nothing = λ h. differs _ _ refl (ap told h.0.done);
  not_failed = λ h. differs _ _ refl (ap told h.0.done);
  failed_elsewhere = λ h. differs _ _ refl (ap told h.0.done);
  another = λ h. differs _ _ refl (ap told h.0.done);
  not_terminated = λ h. differs _ _ refl (ap told h.0.done);
  first_first = λ h. differs _ _ refl (ap told h.0.done);
  left_over = λ h. differs _ _ refl (ap told h.0.done);
  serials_again = λ h. differs _ _ refl (ap told h.1.0.done);
}
