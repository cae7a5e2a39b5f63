-- No process holds more loads of a module than the limit.
use Rattle.std.proofs.Common.{◌≡◌, ℕ, ◌+◌, ◌<◌, ◌≤◌, ◌==◌, Bool, true, false, if◌then◌else◌, not, cond, List, [], ◌∷◌, ◌++◌, count_by, Option, Some, None, refl, sym, subst, append_assoc, arith}
use Rattle.std.specs.Prelude.{is_none, nat_le}
use Rattle.std.proofs.lemmas.Bool.{eqb-true, leb-false}
use Rattle.std.proofs.lemmas.List.{append-nil}
use Rattle.std.proofs.lemmas.List.Sums.{sum_by-cons}
use Rattle.lx_types.specs.Object.{class_of}
use Rattle.lx_types.specs.declared.object.Class.{Class}
use Rattle.lx_types.specs.declared.object.Class.TheVariants as classes
use Rattle.load_model.specs.declared.commands.Refusal.{Refusal}
use Rattle.load_model.specs.declared.commands.Refusal.TheVariants.{Ended, NotLibrary, CountFull}
use Rattle.load_model.specs.declared.deeds.How.{How}
use Rattle.load_model.specs.declared.deeds.How.TheVariants.{Start, Load}
use Rattle.load_model.specs.declared.deeds.Deed.{Deed}
use Rattle.load_model.specs.declared.deeds.Deed.TheVariants as deeds
use Rattle.load_model.specs.declared.deeds.Entry.{Entry}
use Rattle.load_model.specs.Modules.{Library, Held, is_library, unfit, object_at}
use Rattle.load_model.specs.State.{Written, Process, Failing, Eager, with_process, count_of}
use Rattle.load_model.specs.Entering.{holding, attaching, joined, with_fresh_residences, after_entering}
use Rattle.load_model.specs.Leaving.{without_one, freeing, exiting, keeping, after_leaving}
use Rattle.load_model.specs.Refusals.{when, ◌orelse◌, module_refusal, enter_refusal}
use Rattle.lx_types.specs.declared.limits.TheConstants.{MAX_LOADS}
use Rattle.load_model.specs.Asks.{ask_in, may_ask, after_write, after_deed}
use Rattle.load_model.specs.Histories.{state_after, AllFollow, Legal}
use Rattle.load_model.specs.Bounds.{CountsAreSmall}
use Rattle.load_model.proofs.Bools.{and_right}
use Rattle.load_model.proofs.Growing.{one_more_is_after}

abbrev Small : Process → Type 0
Small p = (m : ℕ) → count_of p m ≤ MAX_LOADS

abbrev AllSmall : Eager → Type 0
AllSmall e = (pid : ℕ) → Small (e.processes pid)

-- how many of some are this one
abbrev count_in : ℕ → List ℕ → ℕ
count_in k xs = count_by (λ other. other == k) xs

count_more : (k x : ℕ) (xs : List ℕ) → count_in k (x ∷ xs) ≡ cond (x == k) 1 0 + count_in k xs
count_more k x xs = sum_by-cons (λ other. cond (other == k) 1 0) x xs

fewer : (m k : ℕ) (xs : List ℕ) → count_in k (without_one m xs) ≤ count_in k xs
fewer m k [] = omega arith
fewer m k (x ∷ xs) = step (x == m) (fewer m k xs)
  where
    both : (a b c n o : ℕ) → n ≡ a + b → o ≡ a + c → b ≤ c → n ≤ o
    both a b c n o first other h = omega (arith, first, other, h)

    less : (a b n : ℕ) → n ≡ a + b → b ≤ n
    less a b n is = omega (arith, is)

    step : (b : Bool) → count_in k (without_one m xs) ≤ count_in k xs → count_in k (if b then xs else x ∷ without_one m xs) ≤ count_in k (x ∷ xs)
    step true h = less (cond (x == k) 1 0) (count_in k xs) (count_in k (x ∷ xs)) (count_more k x xs)
    step false h =
        both (cond (x == k) 1 0) (count_in k (without_one m xs)) (count_in k xs) (count_in k (x ∷ without_one m xs)) (count_in k (x ∷ xs))
        (count_more k x (without_one m xs)) (count_more k x xs) h

not_full : (a b d : Bool) (r : Option Refusal) → is_none (when a Ended orelse when b NotLibrary orelse r orelse when d CountFull) ≡ true → d ≡ false
not_full a b false r e = refl
not_full true b true r e = cc
not_full false true true r e = cc
not_full false false true None e = cc
not_full false false true (Some x) e = cc

room_left : (lib : Library) (p : Process) (m : ℕ) → is_none (enter_refusal lib p Load (Some m)) ≡ true → count_of p m < MAX_LOADS
unfolding enter_refusal module_refusal
room_left lib p m e =
    let some : nat_le MAX_LOADS (count_of p m) ≡ false = not_full p.ended (not (is_library lib m)) (nat_le MAX_LOADS (count_of p m)) (unfit lib m) e in
    leb-false MAX_LOADS (count_of p m) some

held_small : (lib : Library) (how : How) (m : ℕ) (js : List ℕ) (p : Process) → is_none (enter_refusal lib p how (Some m)) ≡ true → Small p → Small (holding how m (attaching js p))
held_small lib Start m js p may small k = small k
held_small lib Load m js p may small k = subst (λ n. n ≤ MAX_LOADS) (sym (count_more k m p.loads)) (step (m == k) refl)
  where
    one : (a : ℕ) → a < MAX_LOADS → 1 + a ≤ MAX_LOADS
    one a h = omega arith

    none : (a : ℕ) → a ≤ MAX_LOADS → 0 + a ≤ MAX_LOADS
    none a h = omega arith

    step : (b : Bool) → (m == k) ≡ b → cond b 1 0 + count_by (λ other. other == k) p.loads ≤ MAX_LOADS
    step true is = one (count_by (λ other. other == k) p.loads) (subst (λ n. count_of p n < MAX_LOADS) (eqb-true m k is) (room_left lib p m may))
    step false is = none (count_by (λ other. other == k) p.loads) (small k)

with_small : (e : Eager) (pid : ℕ) (p : Process) → AllSmall e → Small p → AllSmall (with_process e pid p)
unfolding with_process
with_small e pid p all small q = step (q == pid)
  where
    step : (b : Bool) → Small (if b then p else e.processes q)
    step true = small
    step false = all q

written_small : (e : Eager) (pid serial : ℕ) (w : Written) (c : Class) → AllSmall e → AllSmall (after_write e pid serial w c)
written_small e pid serial w classes.Code all = all
written_small e pid serial w classes.Private all = with_small e pid _ all (λ m. all pid m)
written_small e pid serial w classes.Shared all = all

left_small : (lib : Library) (e : Eager) (pid : ℕ) (p : Process) → AllSmall e → Small p → AllSmall (after_leaving lib e pid p)
unfolding after_leaving keeping
left_small lib e pid p all small = with_small e pid (keeping lib e p) all (λ m. small m)

up_to_most : (a b : ℕ) → a ≤ b → b ≤ MAX_LOADS → a ≤ MAX_LOADS
up_to_most a b h k = omega arith

deed_small : (lib : Library) (e : Eager) (pid : ℕ) (d : Deed) → may_ask lib e pid (ask_in d) ≡ true → AllSmall e → AllSmall (after_deed lib e pid d)
unfolding after_deed after_entering may_ask
deed_small lib e pid (deeds.Enter how m fresh calls) may all =
    with_small (with_fresh_residences e fresh) pid _ all (held_small lib how m (joined lib e pid m) (e.processes pid) (and_right _ _ may) (all pid))
deed_small lib e pid (deeds.Full how m of object size) may all = all
deed_small lib e pid (deeds.Failed how m by fresh calls gone) may all = all
deed_small lib e pid (deeds.Free m calls gone) may all =
    left_small lib e pid (freeing m (e.processes pid)) all (λ k. up_to_most _ (count_of (e.processes pid) k) (fewer m k (e.processes pid).loads) (all pid k))
deed_small lib e pid (deeds.Exit calls gone) may all = left_small lib e pid (exiting (e.processes pid)) all (λ k. omega arith)
deed_small lib e pid (deeds.Fault serial m p) may all = all
deed_small lib e pid (deeds.Write serial m object offset bytes) may all = written_small e pid serial _ (class_of (object_at lib m object)) all
deed_small lib e pid (deeds.Debug serial m object offset bytes) may all = written_small e pid serial _ classes.Private all
deed_small lib e pid (deeds.Shared serial m object offset bytes) may all = all

all_small : (lib : Library) (failing : Failing) (contents : Held) (h before : List Entry) →
    AllFollow lib failing contents before h → AllSmall (state_after lib failing before) → AllSmall (state_after lib failing (before ++ h))
all_small lib failing contents [] before all small = (let S : List Entry → Type 0 = λ b. AllSmall (state_after lib failing b) in subst S (sym (append-nil before)) small)
all_small lib failing contents (x ∷ h) before all small =
    let S : List Entry → Type 0 = λ b. AllSmall (state_after lib failing b) in
    subst S (append_assoc before (x ∷ []) h)
    (all_small lib failing contents h (before ++ x ∷ []) all.1
    (subst AllSmall (sym (one_more_is_after lib failing before x)) (deed_small lib (state_after lib failing before) x.pid x.deed all.0.may small)))

pub counts_are_small : CountsAreSmall
unfolding Legal state_after
counts_are_small lib failing contents h pid m legal = all_small lib failing contents h [] legal (λ q k. omega arith) pid m
