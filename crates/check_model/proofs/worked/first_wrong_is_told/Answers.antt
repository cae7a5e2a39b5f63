use Rattle.std.proofs.Common.{◌≡◌, ℕ, ◌≤◌, List, [], ◌∷◌, ◌++◌, take, drop, inl, inr, refl, ap, subst, arith, lit≤}
use Rattle.std.proofs.lemmas.Bool.{false≢true}
use Rattle.load_model.specs.declared.commands.Command.{Command}
use Rattle.load_model.specs.declared.deeds.Deed.{Deed}
use Rattle.load_model.specs.declared.deeds.Deed.TheVariants as deeds
use Rattle.load_model.specs.declared.deeds.Fresh.{Fresh}
use Rattle.load_model.specs.Modules.{Library, bases_for, Order, visit, HealthOf, Entry, followed, Res, number_of, is_library, start_of, inits_each, terms_each, order_of, unfit, entry_spot, resource_of, objects_of, object_at, is_invalid}
use Rattle.base_pick.specs.Places.{places_from}
use Rattle.load_model.specs.State.{with_process, reaches, is_reached, residence_of, attached_residence}
use Rattle.load_model.specs.Entering.{joined, newcomers, resident_ranges, placed_from, placing, after_entering, entering_calls}
use Rattle.load_model.specs.Initialising.{failing_module, failed_calls, enter_deed}
use Rattle.load_model.specs.Leaving.{left, gone_modules, gone, leaving_calls, keeping, after_leaving}
use Rattle.load_model.specs.Memory.{bases_seen, writes_seen, Byte, Bytes}
use Rattle.load_model.specs.Refusals.{module_refusal, enter_refusal, span_refusal, residence_named, place_refusal, query_refusal, resource_refusal, refusal_of}
use Rattle.load_model.specs.Asks.{deed_of, may_ask, after_deed}
use Rattle.load_model.specs.Step.{address_of, fine_answer, answer_of, after_steady, Step}
use Rattle.load_model.specs.Histories.{state_after, has_fault, Legal}
use Rattle.session_model.specs.Merging.{Item, entry, merge_of, state_after_items, AreFor, IsFor}
use Rattle.check_model.specs.declared.kinds.Counts.{Counts}
use Rattle.session_model.specs.WorkedRuns.{D}
use Rattle.check_model.specs.Checks.{AreForFirst}
use Rattle.check_model.specs.Worked.{exit, free_asked, load_asked, touch_D, break_D}
use Rattle.load_model.specs.declared.commands.Command.TheVariants as commands
use Rattle.check_model.proofs.worked.first_wrong_is_told.Goals as goal

next_for : (lib : Library) (x : Item) (c : Command) (cs first left : List Command) → c ∷ cs ≡ first ++ left → AreFor lib (x ∷ []) first → IsFor lib x c
next_for lib x c cs [] left is a = absurd a
next_for lib x c cs (d ∷ first) left is a = let same : d ≡ c = cc (is) in subst (IsFor lib x) same a.0

none_for : (lib : Library) (x : Item) (first left : List Command) → [] ≡ first ++ left → AreFor lib (x ∷ []) first → ⊥
none_for lib x [] left is a = a
none_for lib x (d ∷ first) left is a = absurd (cc (is))

abbrev serial_in : List Fresh → ℕ
serial_in [] = 0
serial_in (f ∷ fresh) = f.serial

abbrev first_serial : Deed → ℕ
first_serial (deeds.Enter how m fresh calls) = serial_in fresh
first_serial deed = 0

abbrev entries_told : Counts → ℕ
entries_told c = c.entries

serial_differs : (d e : Deed) → first_serial d ≡ 2 → first_serial e ≡ 1 → d ≡ e → ⊥
serial_differs d e one other is = let same : first_serial d ≡ first_serial e = ap first_serial is in omega (arith, one, other, same)

entries_differ : (c d : Counts) → entries_told c ≡ 1 → entries_told d ≡ 0 → c ≡ d → ⊥
entries_differ c d one other is = let same : entries_told c ≡ entries_told d = ap entries_told is in omega (arith, one, other, same)

pub returns : goal.returns
unfolding number_of is_library start_of inits_each terms_each order_of unfit entry_spot resource_of objects_of object_at is_invalid Order visit HealthOf Entry followed Res places_from with_process reaches is_reached residence_of attached_residence joined newcomers resident_ranges bases_for placed_from placing after_entering entering_calls failing_module failed_calls enter_deed left gone_modules gone leaving_calls keeping after_leaving bases_seen writes_seen Byte Bytes module_refusal enter_refusal span_refusal residence_named place_refusal query_refusal resource_refusal refusal_of deed_of may_ask after_deed address_of fine_answer answer_of after_steady Step state_after has_fault Legal merge_of state_after_items
returns c = record {
  other_process = inl (record { number_is = refl; kind_is = inl (refl, λ h. (let e = h in cc)) });
  no_process = inl (record { number_is = refl; kind_is = inl (refl, λ h. (let e = h in cc)) });
  more_processes = inl (record { number_is = refl; kind_is = inl (refl, λ h. (let e = h in cc)) });
  front_over = inr ((refl, (tt, (tt, (tt, (tt, (tt, (tt, (tt, (tt, tt))))))))), inr ((refl, (tt, (tt, (tt, (tt, (tt, (tt, (tt, (tt, tt))))))))), inl (record { number_is = refl; kind_is = inr (tt, inl (refl, λ h. (let e : 1 ≤ 0 = h in let none : ⊥ = omega arith in none))) })));
  front_falls = inr ((refl, (tt, (tt, (tt, (tt, (tt, (tt, (tt, (tt, tt))))))))), inr ((refl, (tt, (tt, (tt, (tt, (tt, (tt, (tt, (tt, tt))))))))), inl (record { number_is = refl; kind_is = inr (tt, inl (refl, λ h. (let e : 1 ≤ 0 = h.0 in let none : ⊥ = omega arith in none))) })));
  other_command = inr ((refl, (tt, (tt, (tt, (tt, (tt, (tt, (tt, (tt, tt))))))))), inr ((refl, (tt, (tt, (tt, (tt, (tt, (tt, (tt, (tt, tt))))))))), inl (record { number_is = refl; kind_is = inr (tt, inr (tt, inl (refl, λ h. (let r : AreForFirst D (entry exit ∷ []) (load_asked ∷ []) = h refl in let e : IsFor D (entry exit) load_asked = next_for D (entry exit) load_asked [] r.first r.left r.all r.are in let k = e.2 in cc)))) })));
  no_command = inr ((refl, (tt, (tt, (tt, (tt, (tt, (tt, (tt, (tt, tt))))))))), inr ((refl, (tt, (tt, (tt, (tt, (tt, (tt, (tt, (tt, tt))))))))), inl (record { number_is = refl; kind_is = inr (tt, inr (tt, inl (refl, λ h. (let r : AreForFirst D (entry exit ∷ []) [] = h refl in none_for D (entry exit) r.first r.left r.all r.are)))) })));
  command_left = inr ((refl, (tt, (tt, (tt, (tt, (tt, (tt, (tt, (tt, tt))))))))), inr ((refl, (tt, (tt, (tt, (tt, (tt, (tt, (tt, (tt, tt))))))))), inr ((tt, ((lit≤ tt, lit≤ tt), ((λ _. record { first = take 1 (free_asked ∷ load_asked ∷ []); left = drop 1 (free_asked ∷ load_asked ∷ []); all = refl; are = (refl, tt) }), (tt, (tt, ((tt, tt), ((tt, refl), (refl, (tt, tt))))))))), inl (record { number_is = refl; kind_is = inr (tt, inr (tt, inl (refl, λ h. h.0.1))) }))));
  not_held = inr ((refl, (tt, (tt, (tt, (tt, (tt, (tt, (tt, (tt, tt))))))))), inr ((refl, (tt, (tt, (tt, (tt, (tt, (tt, (tt, (tt, tt))))))))), inl (record { number_is = refl; kind_is = inr (tt, inr (tt, inr ((λ _. record { first = take 1 (free_asked ∷ []); left = drop 1 (free_asked ∷ []); all = refl; are = ((0, refl, refl), tt) }), inl (refl, λ h. (let e = h.may in cc))))) })));
  ended = inr ((refl, (tt, (tt, (tt, (tt, (tt, (tt, (tt, (tt, tt))))))))), inr ((refl, (tt, (tt, (tt, (tt, (tt, (tt, (tt, (tt, tt))))))))), inr ((tt, (tt, ((λ _. record { first = take 1 (commands.Exit ∷ commands.Exit ∷ []); left = drop 1 (commands.Exit ∷ commands.Exit ∷ []); all = refl; are = (refl, tt) }), (record { least = lit≤ tt; most = lit≤ tt; process = refl; may = refl }, (refl, ((refl, refl), ((refl, tt), (tt, (tt, tt))))))))), inl (record { number_is = refl; kind_is = inr (tt, inr (tt, inr ((λ _. record { first = take 2 (commands.Exit ∷ commands.Exit ∷ []); left = drop 2 (commands.Exit ∷ commands.Exit ∷ []); all = refl; are = (refl, (refl, tt)) }), inl (refl, λ h. (let e = h.may in cc))))) }))));
  other_serial = inr ((refl, (tt, (tt, (tt, (tt, (tt, (tt, (tt, (tt, tt))))))))), inr ((refl, (tt, (tt, (tt, (tt, (tt, (tt, (tt, (tt, tt))))))))), inl (record { number_is = refl; kind_is = inr (tt, inr (tt, inr ((λ _. record { first = take 1 (load_asked ∷ []); left = drop 1 (load_asked ∷ []); all = refl; are = ((0, refl, refl), tt) }), inr (record { least = lit≤ tt; most = lit≤ tt; process = refl; may = refl }, inl (refl, λ h. serial_differs _ _ refl refl h))))) })));
  no_touch = inr ((refl, (tt, (tt, (tt, (tt, (tt, (tt, (tt, (tt, tt))))))))), inr ((refl, (tt, (tt, (tt, (tt, (tt, (tt, (tt, (tt, tt))))))))), inr ((tt, (tt, ((λ _. record { first = take 1 (load_asked ∷ []); left = drop 1 (load_asked ∷ []); all = refl; are = ((0, refl, refl), tt) }), (record { least = lit≤ tt; most = lit≤ tt; process = refl; may = refl }, (refl, ((refl, refl), ((refl, tt), (tt, (tt, tt))))))))), inl (record { number_is = refl; kind_is = inr (tt, inr (tt, inr ((λ h. absurd (false≢true h)), inr (record { least = lit≤ tt; most = lit≤ tt; process = refl; may = refl }, inr (refl, inl (refl, λ h. false≢true h.1)))))) }))));
  fault_again = inr ((refl, (tt, (tt, (tt, (tt, (tt, (tt, (tt, (tt, tt))))))))), inr ((refl, (tt, (tt, (tt, (tt, (tt, (tt, (tt, (tt, tt))))))))), inr ((tt, (tt, ((λ _. record { first = take 1 (load_asked ∷ touch_D ∷ []); left = drop 1 (load_asked ∷ touch_D ∷ []); all = refl; are = ((0, refl, refl), tt) }), (record { least = lit≤ tt; most = lit≤ tt; process = refl; may = refl }, (refl, ((refl, refl), ((refl, tt), (tt, (tt, tt))))))))), inr ((tt, (tt, ((λ h. absurd (false≢true h)), (record { least = lit≤ tt; most = lit≤ tt; process = refl; may = refl }, (refl, ((refl, refl), ((refl, tt), (tt, (tt, tt))))))))), inl (record { number_is = refl; kind_is = inr (tt, inr (tt, inr ((λ h. absurd (false≢true h)), inr (record { least = lit≤ tt; most = lit≤ tt; process = refl; may = refl }, inr (refl, inl (refl, λ h. false≢true h.0)))))) })))));
  no_fault = inr ((refl, (tt, (tt, (tt, (tt, (tt, (tt, (tt, (tt, tt))))))))), inr ((refl, (tt, (tt, (tt, (tt, (tt, (tt, (tt, (tt, tt))))))))), inr ((tt, (tt, ((λ _. record { first = take 1 (load_asked ∷ touch_D ∷ []); left = drop 1 (load_asked ∷ touch_D ∷ []); all = refl; are = ((0, refl, refl), tt) }), (record { least = lit≤ tt; most = lit≤ tt; process = refl; may = refl }, (refl, ((refl, refl), ((refl, tt), (tt, (tt, tt))))))))), inl (record { number_is = refl; kind_is = inr (tt, inr ((lit≤ tt, lit≤ tt), inr ((λ _. record { first = take 2 (load_asked ∷ touch_D ∷ []); left = drop 2 (load_asked ∷ touch_D ∷ []); all = refl; are = ((0, refl, refl), (refl, tt)) }), inr (tt, inr (tt, inr ((tt, tt), inl (refl, λ h. false≢true h.1))))))) }))));
  not_touched = inr ((refl, (tt, (tt, (tt, (tt, (tt, (tt, (tt, (tt, tt))))))))), inr ((refl, (tt, (tt, (tt, (tt, (tt, (tt, (tt, (tt, tt))))))))), inr ((tt, (tt, ((λ _. record { first = take 1 (load_asked ∷ break_D ∷ []); left = drop 1 (load_asked ∷ break_D ∷ []); all = refl; are = ((0, refl, refl), tt) }), (record { least = lit≤ tt; most = lit≤ tt; process = refl; may = refl }, (refl, ((refl, refl), ((refl, tt), (tt, (tt, tt))))))))), inl (record { number_is = refl; kind_is = inr (tt, inr (tt, inr ((λ _. record { first = take 2 (load_asked ∷ break_D ∷ []); left = drop 2 (load_asked ∷ break_D ∷ []); all = refl; are = ((0, refl, refl), ((0, 1, refl, refl), tt)) }), inr (record { least = lit≤ tt; most = lit≤ tt; process = refl; may = refl }, inr (refl, inr ((refl, refl), inl (refl, λ h. false≢true h.0))))))) }))));
  other_reply = inr ((refl, (tt, (tt, (tt, (tt, (tt, (tt, (tt, (tt, tt))))))))), inr ((refl, (tt, (tt, (tt, (tt, (tt, (tt, (tt, (tt, tt))))))))), inl (record { number_is = refl; kind_is = inr (tt, inr ((lit≤ tt, lit≤ tt), inr ((λ _. record { first = take 1 (free_asked ∷ []); left = drop 1 (free_asked ∷ []); all = refl; are = (refl, tt) }), inr (tt, inr (tt, inr ((tt, tt), inr ((tt, refl), inl (refl, λ h. (let e = h in cc))))))))) })));
  other_count = inr ((refl, (tt, (tt, (tt, (tt, (tt, (tt, (tt, (tt, tt))))))))), inr ((refl, (tt, (tt, (tt, (tt, (tt, (tt, (tt, (tt, tt))))))))), inl (record { number_is = refl; kind_is = inr (tt, inr (tt, inr ((tt, tt), inr (tt, inr (tt, inr (tt, inr (tt, inr (tt, inl (refl, λ h. entries_differ _ _ refl refl h))))))))) })));
}
