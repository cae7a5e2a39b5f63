-- What the first entry comes to: a refusal by the health of the module, want of a place, or residences that begin.
use Rattle.std.specs.Prelude.{◌≡◌, ◌⊎◌, ℕ, ◌+◌, ◌<◌, ◌&&◌, Bool, true, false, cond, not, if◌then◌else◌, List, [], ◌∷◌, All, filter, find, length, map, nat_le, nat_lt, Option, Some, None, option_map, unwrap_or, is_none, Result, Ok, Err, bytes_eq, refl}
use Rattle.std.specs.List.{position_or_len}
use Rattle.std.proofs.Common.{ap, sym, ◌∙◌, arith, subst, inl, inr}
use Rattle.std.proofs.lemmas.Bool.{lt-ltb}
use Rattle.std.proofs.lemmas.Slice.Eq.{bytes_eq-Decides}
use Rattle.lx_types.specs.Names.{uppercase}
use Rattle.lx_types.specs.declared.limits.TheConstants.{MAX_LOADS}
use Rattle.lx_types.specs.declared.parts.Parts.{Parts}
use Rattle.lx_model.specs.Library.{has_name}
use Rattle.load_model.specs.declared.commands.Command.{Command}
use Rattle.load_model.specs.declared.commands.Command.TheVariants as commands
use Rattle.load_model.specs.declared.commands.Refusal.{Refusal}
use Rattle.load_model.specs.declared.commands.Refusal.TheVariants.{NotProgram, NotLibrary}
use Rattle.load_model.specs.declared.commands.Reply.TheVariants.{Refused}
use Rattle.load_model.specs.declared.deeds.Call.{Call}
use Rattle.load_model.specs.declared.deeds.CallKind.{CallKind}
use Rattle.load_model.specs.declared.deeds.CallKind.TheVariants.{Init, Term, Main}
use Rattle.load_model.specs.declared.deeds.Fresh.{Fresh}
use Rattle.load_model.specs.declared.deeds.How.{How}
use Rattle.load_model.specs.declared.deeds.How.TheVariants.{Start, Load}
use Rattle.load_model.specs.Asks.{deed_of, after_deed}
use Rattle.load_model.specs.Entering.{NoRoom, joined, newcomers, placed_from, placing, resident_ranges, after_entering, entering_calls}
use Rattle.load_model.specs.Initialising.{enter_by, enter_deed, entered, failing_module, is_failing, is_init}
use Rattle.load_model.specs.Modules.{Library, fixed_bytes, is_library, name_of, number_of, order_of, refusal_of_health, unfit}
use Rattle.load_model.specs.Outcomes.{Outcome, done, told, outcome_of}
use Rattle.load_model.specs.Refusals.{when, ◌orelse◌, enter_refusal, module_or_none, module_refusal, refusal_of}
use Rattle.load_model.specs.State.{Eager, new_process, nothing_yet, reaches, residence_of}
use Rattle.load_model.specs.Step.{Answer, entry, steady, answer_of, after_answer, fine_answer, meant, Step}
use Rattle.memory_model.specs.Memory as memory
use Rattle.memory_model.specs.Memory.{RefusesMemory, outcome}
use Rattle.memory_model.specs.declared.held.MemoryRefusal.{MemoryRefusal}
use Rattle.memory_model.specs.declared.held.MemoryRefusal.TheVariants.{NoModule, NoEntry, ForwardLoop, Gate286, ArenaFull}
use Rattle.lx_model.specs.Reach.{HealthOf, Order}
use Rattle.lx_model.specs.declared.library.Health.{Health}
use Rattle.lx_model.specs.declared.library.Health.TheVariants as healths
use Rattle.memory_core.specs.Brought.{HasBrought, how_of}
use Rattle.memory_core.proofs.Addressed.{all_stand}
use Rattle.memory_core.proofs.More.{all_within}

abbrev pub fresh_loader : Eager
fresh_loader = nothing_yet []

-- ---- the name of the first module means it

own_name : (m : Parts) → has_name m.name m ≡ true
own_name m = (bytes_eq-Decides (uppercase m.name) (uppercase m.name)).1 refl

first_named : (lib : Library) → 0 < length lib → number_of lib (name_of lib 0) ≡ Some 0
unfolding number_of
first_named [] some = absurd (omega (arith, some))
first_named (m ∷ others) some =
    let own = own_name m in
    let first : position_or_len (has_name m.name) (m ∷ others) ≡ 0 = ap (λ (b : Bool). cond (not b) (1 + position_or_len (has_name m.name) others) 0) own in
    let below : nat_lt 0 (length (m ∷ others)) ≡ true = lt-ltb 0 (length (m ∷ others)) some in
    ap (λ (n : ℕ). cond (nat_lt n (length (m ∷ others))) (Some n) None) first ∙ ap (λ (b : Bool). cond b (Some 0) None) below

-- ---- the refusal of the command

orelse_none : (o : Option Refusal) → o orelse None ≡ o
orelse_none (Some refusal) = refl
orelse_none None = refl

abbrev command : Library → Bool → Command
command lib b = if b then commands.Load (name_of lib 0) else commands.Start (name_of lib 0)

abbrev how : Bool → How
how b = if b then Load else Start

refused_by : (lib : Library) (b : Bool) → is_library lib 0 ≡ b → number_of lib (name_of lib 0) ≡ Some 0 → refusal_of lib fresh_loader 1 (command lib b) ≡ unfit lib 0
unfolding refusal_of enter_refusal module_refusal
refused_by lib true kind first =
    ap (λ (o : Option ℕ). module_or_none lib new_process Load o) first
    ∙ ap (λ (b : Bool). when (not b) NotLibrary orelse unfit lib 0 orelse None) kind
    ∙ orelse_none (unfit lib 0)
refused_by lib false kind first =
    ap (λ (o : Option ℕ). module_or_none lib new_process Start o) first
    ∙ ap (λ (b : Bool). when b NotProgram orelse unfit lib 0) kind

-- ---- what is answered

abbrev answered : Library → Bool → Option Refusal → Answer
answered lib b (Some refusal) = steady (Refused refusal)
answered lib b None = fine_answer lib (fixed_bytes lib) fresh_loader 1 (command lib b)

answer_by : (lib : Library) (b : Bool) (o : Option Refusal)
    → (elim o [ Some refusal ↦ steady (Refused refusal) | None ↦ fine_answer lib (fixed_bytes lib) fresh_loader 1 (command lib b) ]) ≡ answered lib b o
answer_by lib b (Some refusal) = refl
answer_by lib b None = refl

answer_is : (lib : Library) → 0 < length lib → (memory.entered lib).1 ≡ answered lib (is_library lib 0) (unfit lib 0)
unfolding Step answer_of
answer_is lib some =
    answer_by lib (is_library lib 0) (refusal_of lib fresh_loader 1 (command lib (is_library lib 0)))
    ∙ ap (answered lib (is_library lib 0)) (refused_by lib (is_library lib 0) refl (first_named lib some))

pub unfit_refused : (lib : Library) (refusal : MemoryRefusal) → 0 < length lib → unfit lib 0 ≡ Some (memory.refusal_of refusal) → RefusesMemory lib refusal
unfit_refused lib refusal some unfit_is =
    ap (outcome_of 1) (answer_is lib some ∙ ap (answered lib (is_library lib 0)) unfit_is)

-- Where there is no module, none has the name.
pub nothing_refused : (lib : Library) → length lib ≡ 0 → RefusesMemory lib NoModule
unfolding Step answer_of refusal_of enter_refusal number_of is_library
nothing_refused [] none = refl
nothing_refused (m ∷ others) none = absurd (omega (arith, none))

-- ---- the entry

fine : (lib : Library) (b : Bool) → number_of lib (name_of lib 0) ≡ Some 0 → fine_answer lib (fixed_bytes lib) fresh_loader 1 (command lib b) ≡ entry (enter_by lib fresh_loader 1 (how b) 0 (placing lib fresh_loader 1 0))
unfolding fine_answer deed_of enter_deed
fine lib true first = ap (λ (o : Option ℕ). entry (enter_deed lib fresh_loader 1 Load (unwrap_or o (length lib)))) first
fine lib false first = ap (λ (o : Option ℕ). entry (enter_deed lib fresh_loader 1 Start (unwrap_or o (length lib)))) first

entry_is : (lib : Library) → 0 < length lib → unfit lib 0 ≡ None → (memory.entered lib).1 ≡ entry (enter_by lib fresh_loader 1 (how_of lib) 0 (placing lib fresh_loader 1 0))
entry_is lib some fit =
    answer_is lib some ∙ ap (answered lib (is_library lib 0)) fit ∙ fine lib (is_library lib 0) (first_named lib some)

-- ---- what is new where nothing is resident

all_kept : (test : ℕ → Bool) (xs : List ℕ) → ((x : ℕ) → test x ≡ true) → filter test xs ≡ xs
all_kept test [] each = refl
all_kept test (x ∷ xs) each = ap (λ (b : Bool). cond b (x ∷ filter test xs) (filter test xs)) (each x) ∙ ap (λ (ys : List ℕ). x ∷ ys) (all_kept test xs each)

pub all_joined : (lib : Library) → joined lib fresh_loader 1 0 ≡ order_of lib 0
unfolding joined reaches
all_joined lib = all_kept (λ k. not (reaches lib new_process k)) (order_of lib 0) (λ x. refl)

pub all_new : (lib : Library) → newcomers lib fresh_loader 1 0 ≡ order_of lib 0
unfolding newcomers residence_of
all_new lib = all_kept (λ k. is_none (residence_of fresh_loader k)) (joined lib fresh_loader 1 0) (λ x. refl) ∙ all_joined lib

pub placing_is : (lib : Library) (r : Result (List Fresh) NoRoom) → placed_from lib 0 (resident_ranges lib fresh_loader) (order_of lib 0) ≡ r → placing lib fresh_loader 1 0 ≡ r
unfolding placing
placing_is lib r placed = ap (placed_from lib 0 (resident_ranges lib fresh_loader)) (all_new lib) ∙ placed

-- ---- no initialisation fails

and_false : (b : Bool) → (b && false) ≡ false
and_false true = refl
and_false false = refl

none_fails : (calls : List Call) → find (is_failing fresh_loader 1) calls ≡ None
none_fails [] = refl
none_fails (c ∷ calls) = ap (λ (b : Bool). cond b (Some c) (find (is_failing fresh_loader 1) calls)) (and_false (is_init c.kind)) ∙ none_fails calls

none_failing : (lib : Library) (h : How) (fresh : List Fresh) → failing_module lib fresh_loader 1 h 0 fresh ≡ None
unfolding failing_module
none_failing lib h fresh = ap (option_map (λ (c : Call). c.«module»)) (none_fails (entering_calls lib fresh_loader 1 h 0 fresh))

-- ---- what is told

pub no_room : (lib : Library) (none : NoRoom) → 0 < length lib → unfit lib 0 ≡ None → placed_from lib 0 (resident_ranges lib fresh_loader) (order_of lib 0) ≡ Err none → RefusesMemory lib (ArenaFull none.of none.object.object none.object.size)
no_room lib none some fit placed =
    ap (outcome_of 1) (entry_is lib some fit ∙ ap (λ (r : Result (List Fresh) NoRoom). entry (enter_by lib fresh_loader 1 (how_of lib) 0 r)) (placing_is lib (Err none) placed))

entered_is : (lib : Library) (fresh : List Fresh) → 0 < length lib → unfit lib 0 ≡ None → placed_from lib 0 (resident_ranges lib fresh_loader) (order_of lib 0) ≡ Ok fresh
    → (memory.entered lib).1 ≡ entry (entered lib fresh_loader 1 (how_of lib) 0 fresh None)
entered_is lib fresh some fit placed =
    entry_is lib some fit
    ∙ ap (λ (r : Result (List Fresh) NoRoom). entry (enter_by lib fresh_loader 1 (how_of lib) 0 r)) (placing_is lib (Ok fresh) placed)
    ∙ ap (λ (o : Option ℕ). entry (entered lib fresh_loader 1 (how_of lib) 0 fresh o)) (none_failing lib (how_of lib) fresh)

pub is_brought : (lib : Library) (fresh : List Fresh) → 0 < length lib → unfit lib 0 ≡ None → placed_from lib 0 (resident_ranges lib fresh_loader) (order_of lib 0) ≡ Ok fresh → outcome lib ≡ done 1
is_brought lib fresh some fit placed = ap (outcome_of 1) (entered_is lib fresh some fit placed)

pub has_brought : (lib : Library) (fresh : List Fresh) → 0 < length lib → unfit lib 0 ≡ None → placed_from lib 0 (resident_ranges lib fresh_loader) (order_of lib 0) ≡ Ok fresh
    → map (λ f. f.«module») fresh ≡ order_of lib 0 → All (λ f. f.«module» < length lib) fresh → HasBrought lib fresh
unfolding Step after_deed
has_brought lib fresh some fit placed of_order within =
    let is = entered_is lib fresh some fit placed in
    record {
      brought = is_brought lib fresh some fit placed;
      state = ap (after_answer lib fresh_loader 1 (memory.entering lib)) is;
      «modules» = of_order;
      within = within;
      stand = all_stand lib 0 (order_of lib 0) (resident_ranges lib fresh_loader) fresh placed;
    }

-- ---- by the order that a library keeps

pub order_placed : (lib : Library) (order : List ℕ) (fresh : List Fresh) → 0 < length lib → unfit lib 0 ≡ None → order ≡ Order lib 0 → placed_from lib 0 (resident_ranges lib fresh_loader) order ≡ Ok fresh
    → map (λ f. f.«module») fresh ≡ order → All (λ m. m < length lib) order → HasBrought lib fresh
unfolding order_of
order_placed lib order fresh some fit is placed of_order within =
    has_brought lib fresh some fit (ap (placed_from lib 0 (resident_ranges lib fresh_loader)) (sym is) ∙ placed) (of_order ∙ is) (all_within lib fresh order of_order within)

pub order_full : (lib : Library) (order : List ℕ) (none : NoRoom) → 0 < length lib → unfit lib 0 ≡ None → order ≡ Order lib 0 → placed_from lib 0 (resident_ranges lib fresh_loader) order ≡ Err none
    → RefusesMemory lib (ArenaFull none.of none.object.object none.object.size)
unfolding order_of
order_full lib order none some fit is placed = no_room lib none some fit (ap (placed_from lib 0 (resident_ranges lib fresh_loader)) (sym is) ∙ placed)

-- ---- a library's first module is brought in, or it is refused

by_places : (lib : Library) (r : Result (List Fresh) NoRoom) → 0 < length lib → unfit lib 0 ≡ None → placed_from lib 0 (resident_ranges lib fresh_loader) (order_of lib 0) ≡ r
    → (outcome lib ≡ done 1) ⊎ ((why : MemoryRefusal) × RefusesMemory lib why)
by_places lib (Ok fresh) some fit placed = inl (is_brought lib fresh some fit placed)
by_places lib (Err none) some fit placed = inr (ArenaFull none.of none.object.object none.object.size, no_room lib none some fit placed)

by_health : (lib : Library) (h : Health) → 0 < length lib → unfit lib 0 ≡ refusal_of_health h → (outcome lib ≡ done 1) ⊎ ((why : MemoryRefusal) × RefusesMemory lib why)
by_health lib healths.Fit some is = by_places lib (placed_from lib 0 (resident_ranges lib fresh_loader) (order_of lib 0)) some is refl
by_health lib (healths.NoModule by name_no) some is = inr (NoModule, unfit_refused lib NoModule some is)
by_health lib (healths.NoEntry by) some is = inr (NoEntry, unfit_refused lib NoEntry some is)
by_health lib (healths.ForwardLoop by) some is = inr (ForwardLoop, unfit_refused lib ForwardLoop some is)
by_health lib (healths.Gate286 by) some is = inr (Gate286, unfit_refused lib Gate286 some is)

pub brought_or_refused : (lib : Library) → (outcome lib ≡ done 1) ⊎ ((why : MemoryRefusal) × RefusesMemory lib why)
unfolding unfit
brought_or_refused [] = inr (NoModule, nothing_refused [] refl)
brought_or_refused (m ∷ others) = by_health (m ∷ others) (HealthOf (m ∷ others) 0) (omega arith) refl
