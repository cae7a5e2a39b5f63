-- Which residence of a module a process reaches, and which of its pages it may make present.
use Rattle.std.proofs.Common.{◌≡◌, ℕ, ◌+◌, ◌-◌, ◌*◌, ◌/◌, ◌<◌, ◌≤◌, ◌==◌, ◌&&◌, ◌||◌, not, Bool, true, false, if◌then◌else◌, List, [], ◌∷◌, length, Option, Some, None, is_some, is_none, refl, sym, ◌∙◌, ap, arith}
use Rattle.std.specs.Prelude.{slice_index, nat_lt, nat_le}
use Rattle.std.specs.List.{list_any, range_with_len}
use Rattle.std.proofs.lemmas.Bool.{ltb-true, ltb-false}
use Rattle.std.proofs.lemmas.Bool.Decides.{nat_tests}
use Rattle.lx_types.specs.Object.{class_of}
use Rattle.lx_types.specs.Parts.{object_of, page_at}
use Rattle.lx_types.specs.declared.object.Class.{Class}
use Rattle.lx_types.specs.declared.object.Class.TheVariants as classes
use Rattle.lx_types.specs.declared.object.PageId.{PageId}
use Rattle.lx_types.specs.declared.object.TheConstants.{PAGE_SIZE}
use Rattle.lx_model.specs.Library.{module_of}
use Rattle.lx_model.specs.ModuleBytes as bytes
use Rattle.page_fix.specs.Fixable.{has_shared_pages, is_page_of, is_fixable}
use Rattle.load_model.specs.declared.commands.Refusal.TheVariants.{Range, Invalid}
use Rattle.load_model.specs.declared.deeds.Entry.{Entry}
use Rattle.load_model.specs.Modules.{Library, Held, is_invalid, objects_of, object_at}
use Rattle.load_model.specs.State.{Failing, Residence, Eager, pids, is_among, reaches, residence_of, attached_residence}
use Rattle.load_model.specs.Memory.{page, pages_over}
use Rattle.load_model.specs.Refusals.{when, ◌orelse◌, span_refusal, is_outside, covers_invalid}
use Rattle.load_model.specs.Asks.{is_own, may_ask, is_attached}
use Rattle.load_model.specs.Histories.{state_after, Legal}
use Rattle.load_model.specs.Laws.{ReachedIsResident}
use Rattle.load_model.proofs.Bools.{or_false}
use Rattle.load_model.proofs.Bytes.{find_is}
use Rattle.load_model.proofs.Orders.{one_reaches}
use Rattle.load_model.proofs.ViewReplies.{attached_is_resident}
use Rattle.standing_serials.specs.Standing.{AreSerialsOf}
use Rattle.play_laws.specs.FaultAsks.{FaultsByPages}

-- ---- a module that is reached is resident

some_there : {X : Type 0} (o : Option X) → is_some o ≡ true → (x : X) × (o ≡ Some x)
some_there None is = cc
some_there (Some x) is = (x, refl)

found_module : (e : Eager) (m : ℕ) (r : Residence) → residence_of e m ≡ Some r → r.«module» ≡ m
unfolding residence_of
found_module e m r is = find_is m e.residences r is

-- the serial number and the module of the residence of a module that a process reaches
pub reached_stay : ReachedIsResident → (lib : Library) (failing : Failing) (contents : Held) (h : List Entry) (last : List ℕ) (pid m : ℕ) → Legal lib failing contents h → is_among pids pid ≡ true →
    AreSerialsOf lib (state_after lib failing h) last → m < length lib → reaches lib ((state_after lib failing h).processes pid) m ≡ true →
    (r : Residence) × (attached_residence lib (state_after lib failing h) pid m ≡ Some r) × (r.serial ≡ slice_index last m) × (r.«module» ≡ m)
reached_stay resident lib failing contents h last pid m legal there are within reached =
    let e : Eager = state_after lib failing h in
    let it = some_there (residence_of e m) (resident lib failing contents h legal m ∙ one_reaches lib e pid m there reached) in
    (it.0, attached_is_resident lib e pid m reached ∙ it.1, sym (are.stand m it.0 within it.1), found_module e m it.0 it.1)

pub unreached : (lib : Library) (e : Eager) (pid m : ℕ) → reaches lib (e.processes pid) m ≡ false → attached_residence lib e pid m ≡ None
unfolding attached_residence
unreached lib e pid m not = ap (λ b. if b then residence_of e m else None) not

-- ---- a page that may be made present

one_page : (n : ℕ) → pages_over (n * PAGE_SIZE) 1 ≡ n ∷ []
one_page n = ap (λ k. range_with_len k ((n * PAGE_SIZE + 1 - 1) / PAGE_SIZE + 1 - k)) (quotient n) ∙ ap (range_with_len n) (one n)
  where
    quotient : (n : ℕ) → (n * 4096) / 4096 ≡ n
    quotient n = omega arith

    one : (n : ℕ) → (n * 4096 + 1 - 1) / 4096 + 1 - n ≡ 1
    one n = omega arith

shared_own : (c : Class) → has_shared_pages c ≡ not (is_own c)
shared_own classes.Code = refl
shared_own classes.Private = refl
shared_own classes.Shared = refl

span_not : (a b : Bool) → is_none (when a Range orelse None orelse when b Invalid) ≡ not a && not b
span_not true b = refl
span_not false true = refl
span_not false false = refl

zero_or : (n : ℕ) → (n == 0) ≡ not (nat_lt 0 n)
zero_or n = grind (arith, nat_tests)

over_or : (n count : ℕ) → nat_lt count n ≡ not (nat_le n count)
over_or n count = grind (arith, nat_tests)

past_or : (size n : ℕ) → nat_lt size (n * 4096 + 1) ≡ not (nat_lt n ((size + 4095) / 4096))
past_or size n = step (nat_lt size (n * 4096 + 1)) refl (nat_lt n ((size + 4095) / 4096)) refl
  where
    step : (a : Bool) → nat_lt size (n * 4096 + 1) ≡ a → (b : Bool) → nat_lt n ((size + 4095) / 4096) ≡ b → a ≡ not b
    step true first false second = refl
    step false first true second = refl
    step true first true second =
        absurd (let low : size < n * 4096 + 1 = ltb-true size (n * 4096 + 1) first in let high : n < (size + 4095) / 4096 = ltb-true n ((size + 4095) / 4096) second in omega (arith, low, high))
    step false first false second =
        absurd (let low : n * 4096 + 1 ≤ size = ltb-false size (n * 4096 + 1) first in let high : (size + 4095) / 4096 ≤ n = ltb-false n ((size + 4095) / 4096) second in omega (arith, low, high))

three_not : (a b c : Bool) → not (not a || not b || not c) ≡ (a && b) && c
three_not true true true = refl
three_not true true false = refl
three_not true false c = refl
three_not false b c = refl

outside_not : (lib : Library) (m : ℕ) (p : PageId) → not (is_outside lib m p.object (p.page * PAGE_SIZE) 1) ≡ is_page_of (module_of lib m) p
unfolding object_at objects_of
outside_not lib m p =
    let size : ℕ = (object_of (module_of lib m) p.object).size in
    let count : ℕ = length (module_of lib m).objects in
    ap (λ z. not (z || nat_lt count p.object || nat_lt size (p.page * 4096 + 1))) (zero_or p.object)
    ∙ (ap (λ z. not (not (nat_lt 0 p.object) || z || nat_lt size (p.page * 4096 + 1))) (over_or p.object count)
    ∙ (ap (λ z. not (not (nat_lt 0 p.object) || not (nat_le p.object count) || z)) (past_or size p.page)
    ∙ three_not (nat_lt 0 p.object) (nat_le p.object count) (nat_lt p.page ((size + 4095) / 4096))))

invalid_alone : (lib : Library) (m : ℕ) (p : PageId) → covers_invalid lib m p.object (p.page * PAGE_SIZE) 1 ≡ is_invalid lib m p
invalid_alone lib m p = ap (list_any (λ n. is_invalid lib m (page p.object n))) (one_page p.page) ∙ or_false (is_invalid lib m p)

moved_test : (g a b c d : Bool) → (g && (a && (b && not c))) && d ≡ g && (a && ((b && d) && not c))
moved_test false a b c d = refl
moved_test true false b c d = refl
moved_test true true false c d = refl
moved_test true true true true true = refl
moved_test true true true true false = refl
moved_test true true true false true = refl
moved_test true true true false false = refl

pub faults_by_pages : FaultsByPages
unfolding may_ask span_refusal is_fixable is_invalid object_at
faults_by_pages lib e pid serial m p =
    let going : Bool = not (e.processes pid).ended in
    let own : Bool = is_attached lib e pid serial m in
    let shared : Bool = not (is_own (class_of (object_of (module_of lib m) p.object))) in
    let bad : Bool = bytes.is_invalid (page_at (module_of lib m) p).kind in
    ap (λ z. (going && (own && z)) && shared)
    (span_not (is_outside lib m p.object (p.page * PAGE_SIZE) 1) (covers_invalid lib m p.object (p.page * PAGE_SIZE) 1)
    ∙ (ap (λ z. z && not (covers_invalid lib m p.object (p.page * PAGE_SIZE) 1)) (outside_not lib m p)
    ∙ ap (λ z. is_page_of (module_of lib m) p && not z) (invalid_alone lib m p)))
    ∙ (moved_test going own (is_page_of (module_of lib m) p) bad shared
    ∙ ap (λ z. going && (own && ((is_page_of (module_of lib m) p && z) && not bad))) (sym (shared_own (class_of (object_of (module_of lib m) p.object)))))
