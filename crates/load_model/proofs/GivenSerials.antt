-- Faults name serial numbers that were given.
use Rattle.std.proofs.Common.{◌≡◌, ℕ, ◌≤◌, ◌==◌, Bool, true, false, if◌then◌else◌, ◌||◌, cond, List, [], ◌∷◌, ◌++◌, map, find, Option, Some, None, refl, sym, ◌∙◌, ap, subst, append_assoc, arith, inl, inr}
use Rattle.std.proofs.lemmas.Bool.{eqb-true, or_cases}
use Rattle.std.proofs.lemmas.List.{append-nil}
use Rattle.std.proofs.lemmas.List.Folds.{list_any-append}
use Rattle.std.proofs.Math.Bool.{or-false}
use Rattle.lx_types.specs.declared.object.PageId.{PageId}
use Rattle.lx_types.specs.declared.object.Class.{Class}
use Rattle.lx_types.specs.declared.object.Class.TheVariants as classes
use Rattle.lx_types.specs.Object.{class_of}
use Rattle.load_model.specs.declared.deeds.Deed.{Deed}
use Rattle.load_model.specs.declared.deeds.Deed.TheVariants as deeds
use Rattle.load_model.specs.declared.deeds.Entry.{Entry}
use Rattle.load_model.specs.Modules.{Library, Held, object_at}
use Rattle.load_model.specs.State.{Failing, Written, Residence, Eager, with_process, reaches, residence_of, attached_residence}
use Rattle.load_model.specs.Entering.{after_entering}
use Rattle.load_model.specs.Leaving.{after_leaving}
use Rattle.load_model.specs.Asks.{ask_in, may_ask, is_serial, is_attached, after_write, after_deed}
use Rattle.load_model.specs.Histories.{state_after, is_fault_of, has_fault, Follows, AllFollow, Legal}
use Rattle.load_model.specs.Serials.{Rise, FaultsAreGiven}
use Rattle.load_model.proofs.Bools.{and_left, and_right}
use Rattle.load_model.proofs.Growing.{one_more_is_after, one_more_is_legal, nothing_is_legal}
use Rattle.load_model.proofs.Serials.{serials_rise}

-- ---- serial numbers do not fall

pub written_serials : (e : Eager) (pid serial : ℕ) (w : Written) (c : Class) → (after_write e pid serial w c).serials ≡ e.serials
unfolding with_process
written_serials e pid serial w classes.Code = refl
written_serials e pid serial w classes.Private = refl
written_serials e pid serial w classes.Shared = refl

serials_grow : (lib : Library) (e : Eager) (pid : ℕ) (d : Deed) → e.serials ≤ (after_deed lib e pid d).serials
unfolding after_deed after_entering after_leaving with_process
serials_grow lib e pid (deeds.Enter how m fresh calls) = omega arith
serials_grow lib e pid (deeds.Full how m of object size) = omega arith
serials_grow lib e pid (deeds.Failed how m by fresh calls gone) = omega arith
serials_grow lib e pid (deeds.Free m calls gone) = omega arith
serials_grow lib e pid (deeds.Exit calls gone) = omega arith
serials_grow lib e pid (deeds.Fault serial m p) = omega arith
serials_grow lib e pid (deeds.Write serial m object offset bytes) =
    (let same = written_serials e pid serial (record { object = object; offset = offset; bytes = bytes }) (class_of (object_at lib m object)) in omega (arith, same))
serials_grow lib e pid (deeds.Debug serial m object offset bytes) = (let same = written_serials e pid serial (record { object = object; offset = offset; bytes = bytes }) classes.Private in omega (arith, same))
serials_grow lib e pid (deeds.Shared serial m object offset bytes) = omega arith

-- ---- what stands has one that was given

above : (low high : ℕ) (ns : List ℕ) → Rise low ns high → low ≤ high
above low high [] h = h
above low high (n ∷ ns) h = (let more = above n high ns h.1 in let first = h.0 in omega arith)

found_below : (f : Residence → Bool) (rs : List Residence) (low high : ℕ) (r : Residence) → Rise low (map (λ x. x.serial) rs) high → find f rs ≡ Some r → r.serial ≤ high
found_below f [] low high r h e = cc
found_below f (x ∷ rs) low high r h e = step (f x) e (found_below f rs x.serial high r h.1)
  where
    step : (b : Bool) → cond b (Some x) (find f rs) ≡ Some r → (find f rs ≡ Some r → r.serial ≤ high) → r.serial ≤ high
    step true e later =
        let same : x ≡ r = cc in
        let at : x.serial ≡ r.serial = ap (λ (y : Residence). y.serial) same in
        let most = above x.serial high (map (λ y. y.serial) rs) h.1 in
        omega arith
    step false e later = later e

attached_below : (lib : Library) (e : Eager) (pid serial m high : ℕ) → Rise 0 (map (λ x. x.serial) e.residences) high → is_attached lib e pid serial m ≡ true → serial ≤ high
unfolding attached_residence residence_of
attached_below lib e pid serial m high h at = step (reaches lib (e.processes pid) m) at
  where
    inner : (o : Option Residence) → find (λ r. r.«module» == m) e.residences ≡ o → is_serial serial o ≡ true → serial ≤ high
    inner None is at = cc
    inner (Some r) is at =
        let same : r.serial ≡ serial = eqb-true r.serial serial at in
        let most = found_below (λ x. x.«module» == m) e.residences 0 high r h is in
        omega arith

    step : (b : Bool) → is_serial serial (if b then find (λ r. r.«module» == m) e.residences else None) ≡ true → serial ≤ high
    step true at = inner (find (λ r. r.«module» == m) e.residences) refl at
    step false at = cc

-- ---- one entry

fault_below : (lib : Library) (e : Eager) (pid serial high : ℕ) (p : PageId) (d : Deed) →
    Rise 0 (map (λ x. x.serial) e.residences) high → may_ask lib e pid (ask_in d) ≡ true → is_fault_of serial p d ≡ true → serial ≤ high
unfolding may_ask
fault_below lib e pid serial high p (deeds.Fault other m q) h may is =
    let same : other ≡ serial = eqb-true other serial (and_left _ _ is) in
    let at : is_attached lib e pid other m ≡ true = and_left _ _ (and_right _ _ (and_left _ _ may)) in
    let below : other ≤ high = attached_below lib e pid other m high h at in
    subst (λ n. n ≤ high) same below
fault_below lib e pid serial high p (deeds.Enter how m fresh calls) h may is = cc
fault_below lib e pid serial high p (deeds.Full how m of object size) h may is = cc
fault_below lib e pid serial high p (deeds.Failed how m by fresh calls gone) h may is = cc
fault_below lib e pid serial high p (deeds.Free m calls gone) h may is = cc
fault_below lib e pid serial high p (deeds.Exit calls gone) h may is = cc
fault_below lib e pid serial high p (deeds.Write s m object offset bytes) h may is = cc
fault_below lib e pid serial high p (deeds.Debug s m object offset bytes) h may is = cc
fault_below lib e pid serial high p (deeds.Shared s m object offset bytes) h may is = cc

one_more : (h : List Entry) (x : Entry) (serial : ℕ) (p : PageId) → has_fault (h ++ x ∷ []) serial p ≡ has_fault h serial p || is_fault_of serial p x.deed
unfolding has_fault
one_more h x serial p = list_any-append (λ entry. is_fault_of serial p entry.deed) h (x ∷ []) ∙ ap (λ b. has_fault h serial p || b) (or-false (is_fault_of serial p x.deed))

abbrev Given : Library → Failing → List Entry → Type 0
Given lib failing h = (serial : ℕ) (p : PageId) → has_fault h serial p ≡ true → serial ≤ (state_after lib failing h).serials

given_more : (lib : Library) (failing : Failing) (contents : Held) (h : List Entry) (x : Entry) → Legal lib failing contents h → Follows lib failing contents h x → Given lib failing h → Given lib failing (h ++ x ∷ [])
given_more lib failing contents h x legal follows given serial p is =
    let grows = serials_grow lib (state_after lib failing h) x.pid x.deed in
    let after : (state_after lib failing (h ++ x ∷ [])).serials ≡ (after_deed lib (state_after lib failing h) x.pid x.deed).serials = ap (λ (e : Eager). e.serials) (one_more_is_after lib failing h x) in
    let below : serial ≤ (state_after lib failing h).serials =
    elim (or_cases (has_fault h serial p) (is_fault_of serial p x.deed) (sym (one_more h x serial p) ∙ is)) [
      | inl before ↦ given serial p before
      | inr here ↦ fault_below lib (state_after lib failing h) x.pid serial (state_after lib failing h).serials p x.deed (serials_rise lib failing contents h legal) follows.may here
    ]
    in
    omega arith

all_given : (lib : Library) (failing : Failing) (contents : Held) (h before : List Entry) →
    AllFollow lib failing contents before h → Legal lib failing contents before → Given lib failing before → Given lib failing (before ++ h)
all_given lib failing contents [] before all legal given = (let G : List Entry → Type 0 = Given lib failing in subst G (sym (append-nil before)) given)
all_given lib failing contents (x ∷ h) before all legal given =
    let G : List Entry → Type 0 = Given lib failing in
    subst G (append_assoc before (x ∷ []) h)
    (all_given lib failing contents h (before ++ x ∷ []) all.1 (one_more_is_legal lib failing contents before x legal all.0) (given_more lib failing contents before x legal all.0 given))

pub faults_are_given : FaultsAreGiven
unfolding Legal has_fault
faults_are_given lib failing contents h serial p legal is = all_given lib failing contents h [] legal (nothing_is_legal lib failing contents) (λ s q e. cc) serial p is
