-- A turn of the loop that chooses modules by an index of names.
use Rattle.std.specs.Prelude.{◌≡◌, ℕ, ◌<◌, ◌≤◌, Bool, true, false, cond, not, ◌||◌, ◌&&◌, ◌==◌, List, [], ◌∷◌, ◌++◌, Option, Some, None, length, slice_get, is_some, option_to_list, refl}
use Rattle.std.specs.List.{list_any}
use Rattle.std.specs.Option.{option_or}
use Rattle.std.specs.Ordering.{nat_cmp, is_eq}
use Rattle.std.specs.BTreeSet.{BTreeSet, contains, IsLowerBound}
use Rattle.std.proofs.Common.{ap, sym, ◌∙◌, arith, subst, true≢false}
use Rattle.std.proofs.lemmas.Bool.Decides.{nat_tests}
use Rattle.std.proofs.lemmas.List.{append-nil}
use Rattle.std.proofs.lemmas.Map.Keys.{le_from_not_gt}
use Rattle.std.proofs.lemmas.Option.{slice_get_within}
use Rattle.obj_types.specs.declared.object.ObjModule.{ObjModule}
use Rattle.obj_types.specs.declared.input.LinkInput.{LinkInput}
use Rattle.link_model.specs.declared.symbols.Pick.{Pick}
use Rattle.link_model.specs.Choosing.{Chosen, defines, is_defined, modules_of, next_pick, object_picks}
use Rattle.link_model.proofs.Growing.{IsBegun, unpicked, grown, fewer}
use Rattle.name_table.specs.Entries.{value_named}
use Rattle.sym_table.specs.declared.choosing.Choice.{Choice}
use Rattle.sym_table.specs.Choices.{AreLeaders, IsChoice}
use Rattle.sym_table.specs.Leading.{leader, waits, awaits, given}
use Rattle.sym_table.proofs.LeaderTables.{some_given}
use Rattle.sym_table.proofs.Steps.{modules_more, defined_more, waits_more, awaited_names, waits_first, objects_are}
use Rattle.sym_table.proofs.Waiting.{next_none, next_some, waiting_there}

abbrev pub Known : LinkInput → List Pick → BTreeSet ℕ → Type 0
Known input picks waiting = (k : ℕ) → contains nat_cmp waiting k ≡ waits input picks k

abbrev pub chosen_next : List Pick → ℕ → List Pick
chosen_next picks j = picks ++ record { lib = true; index = j } ∷ []

equal_numbers : (j k : ℕ) → is_eq (nat_cmp j k) ≡ (k == j)
equal_numbers j k = grind (arith, nat_tests)

pub least_waits : (input : LinkInput) (picks : List Pick) (waiting : BTreeSet ℕ) (j : ℕ) → Known input picks waiting → IsLowerBound nat_cmp waiting j → (k : ℕ) → waits input picks k ≡ true → j ≤ k
least_waits input picks waiting j known least k w = le_from_not_gt j k (least k (known k ∙ w))

pub its_pick : (input : LinkInput) (picks : List Pick) (waiting : BTreeSet ℕ) (j : ℕ) → Known input picks waiting → contains nat_cmp waiting j ≡ true → IsLowerBound nat_cmp waiting j → next_pick input picks ≡ Some (record { lib = true; index = j })
its_pick input picks waiting j known member least =
    next_some input picks j (sym (known j) ∙ member) (least_waits input picks waiting j known least)

-- The first that waits is a library module.
pub its_place : (input : LinkInput) (c : Choice) (j : ℕ) (libs : List ObjModule) → IsChoice input c → libs ≡ input.libs → contains nat_cmp c.waiting j ≡ true → j < length libs
its_place input c j libs known same member =
    let some = waiting_there input c.picks j (sym (known.waiting j) ∙ member) in
    within libs (slice_get libs j) refl (ap (λ (ms : List ObjModule). is_some (slice_get ms j)) same ∙ some)
  where
    within : (ms : List ObjModule) (o : Option ObjModule) → slice_get ms j ≡ o → is_some o ≡ true → j < length ms
    within ms None e some = absurd (true≢false (sym some))
    within ms (Some m) e some = slice_get_within ms j m e

popped_by : (b w : Bool) → cond b false w ≡ (not b && w)
popped_by true w = refl
popped_by false w = refl

-- The names that are defined with one more module.
pub defined_step : (input : LinkInput) (picks : List Pick) (j : ℕ) (m : ObjModule) (defined after : List (List ℕ × ℕ)) → slice_get input.libs j ≡ Some m →
    ((name : List ℕ) → is_some (value_named name defined) ≡ is_defined (modules_of input picks) input.def name) →
    ((name : List ℕ) → value_named name after ≡ option_or (value_named name defined) (given (defines m name) j)) →
    (name : List ℕ) → is_some (value_named name after) ≡ (is_defined (modules_of input picks) input.def name || defines m name)
defined_step input picks j m defined after at said grown name =
    ap is_some (grown name) ∙ some_given (value_named name defined) (defines m name) j ∙ ap (λ (b : Bool). b || defines m name) (said name)

pub defined_after : (input : LinkInput) (picks : List Pick) (j : ℕ) (m : ObjModule) (name : List ℕ) → slice_get input.libs j ≡ Some m →
    (is_defined (modules_of input picks) input.def name || defines m name) ≡ is_defined (modules_of input (chosen_next picks j)) input.def name
defined_after input picks j m name at =
    sym (ap (λ (ms : List ObjModule). is_defined ms input.def name) (modules_more input picks j m at) ∙ defined_more (modules_of input picks) m input.def name)

-- The modules that wait with one more module.
pub waiting_step : (input : LinkInput) (picks : List Pick) (j : ℕ) (m : ObjModule) (leaders defined : List (List ℕ × ℕ)) (waiting popped after : BTreeSet ℕ) → slice_get input.libs j ≡ Some m →
    Known input picks waiting → IsLowerBound nat_cmp waiting j →
    ((k : ℕ) → contains nat_cmp popped k ≡ cond (is_eq (nat_cmp j k)) false (contains nat_cmp waiting k)) →
    ((name : List ℕ) → value_named name leaders ≡ leader input.libs name) →
    ((name : List ℕ) → is_some (value_named name defined) ≡ (is_defined (modules_of input picks) input.def name || defines m name)) →
    ((k : ℕ) → contains nat_cmp after k ≡ (contains nat_cmp popped k || list_any (awaits leaders defined k) m.exts)) → Known input (chosen_next picks j) after
waiting_step input picks j m leaders defined waiting popped after at known least less led_by said more k =
    let new : List ℕ → Bool = λ name. is_defined (modules_of input picks) input.def name || defines m name in
    more k
    ∙ ap (λ (b : Bool). b || list_any (awaits leaders defined k) m.exts) (less k ∙ popped_by (is_eq (nat_cmp j k)) (contains nat_cmp waiting k)
    ∙ ap (λ (b : Bool). not b && contains nat_cmp waiting k) (equal_numbers j k) ∙ ap (λ (b : Bool). not (k == j) && b) (known k))
    ∙ ap (λ (b : Bool). (not (k == j) && waits input picks k) || b) (awaited_names input leaders defined new k m led_by said)
    ∙ sym (waits_more input picks j m k at (least_waits input picks waiting j known least))

-- ---- one more choice

pub first_known : (input : LinkInput) (leaders : List (List ℕ × ℕ)) (c : Choice) → AreLeaders input leaders → c.picks ≡ object_picks input →
    ((name : List ℕ) → is_some (value_named name c.defined) ≡ is_defined input.objects input.def name) →
    ((k : ℕ) → contains nat_cmp c.waiting k ≡ list_any (λ m. list_any (awaits leaders c.defined k) m.exts) input.objects) → IsChoice input c
first_known input leaders c led_by is defined waiting =
    let are : modules_of input c.picks ≡ input.objects = objects_are input c.picks is in
    record {
      defined = λ name. defined name ∙ ap (λ (ms : List ObjModule). is_defined ms input.def name) (sym are);
      waiting = λ k. waiting k ∙ waits_first input c.picks leaders c.defined k are led_by defined;
    }

pub next_known : (input : LinkInput) (leaders : List (List ℕ × ℕ)) (c new : Choice) (popped : BTreeSet ℕ) (j : ℕ) (m : ObjModule) → AreLeaders input leaders → IsChoice input c →
    slice_get input.libs j ≡ Some m → IsLowerBound nat_cmp c.waiting j → ((k : ℕ) → contains nat_cmp popped k ≡ cond (is_eq (nat_cmp j k)) false (contains nat_cmp c.waiting k)) →
    new.picks ≡ chosen_next c.picks j → ((name : List ℕ) → value_named name new.defined ≡ option_or (value_named name c.defined) (given (defines m name) j)) →
    ((k : ℕ) → contains nat_cmp new.waiting k ≡ (contains nat_cmp popped k || list_any (awaits leaders new.defined k) m.exts)) → IsChoice input new
next_known input leaders c new popped j m led_by known at least less picks grown more =
    let said = defined_step input c.picks j m c.defined new.defined at known.defined grown in
    record {
      defined = λ name. said name ∙ defined_after input c.picks j m name at ∙ ap (λ (ps : List Pick). is_defined (modules_of input ps) input.def name) (sym picks);
      waiting = λ k. waiting_step input c.picks j m leaders new.defined c.waiting popped new.waiting at known.waiting least less led_by said more k ∙ ap (λ (ps : List Pick). waits input ps k) (sym picks);
    }

-- ---- the end

no_keys : (ks : List ℕ) → (0 < length ks → ⊥) → ks ≡ []
no_keys [] none = refl
no_keys (k ∷ ks) none = absurd (none (omega arith))

pub none_next : (input : LinkInput) (c : Choice) → IsChoice input c → (0 < length c.waiting.keys → ⊥) → next_pick input c.picks ≡ None
none_next input c known none =
    next_none input c.picks (λ k. sym (known.waiting k) ∙ ap (list_any (λ x. is_eq (nat_cmp k x))) (no_keys c.waiting.keys none))

-- The picks so far, with one more where there is one.
pub more_begun : (input : LinkInput) (picks new : List Pick) (o : Option Pick) → next_pick input picks ≡ o → IsBegun input picks → new ≡ picks ++ option_to_list o → IsBegun input new
more_begun input picks new None next begun is = subst (IsBegun input) (sym (is ∙ append-nil picks)) begun
more_begun input picks new (Some pick) next begun is = subst (IsBegun input) (sym is) (grown input picks pick begun next)

pub fewer_left : (input : LinkInput) (picks new : List Pick) (o : Option Pick) → next_pick input picks ≡ o → is_some o ≡ true → new ≡ picks ++ option_to_list o → unpicked input new < unpicked input picks
fewer_left input picks new None next some is = absurd (true≢false (sym some))
fewer_left input picks new (Some pick) next some is = subst (λ (ps : List Pick). unpicked input ps < unpicked input picks) (sym is) (fewer input picks pick next)

pub at_end : (input : LinkInput) (picks new : List Pick) (o : Option Pick) → next_pick input picks ≡ o → is_some o ≡ false → IsBegun input picks → new ≡ picks ++ option_to_list o → Chosen input new
at_end input picks new None next none begun is =
    subst (Chosen input) (sym (is ∙ append-nil picks)) (record { begins = begun.begins; grows = begun.grows; ends = next })
at_end input picks new (Some pick) next none begun is = absurd (true≢false none)
