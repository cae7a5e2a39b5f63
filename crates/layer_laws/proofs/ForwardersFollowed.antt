-- What a forwarder leads to is what the place leads to that it names, a loop of forwarders too.
use Rattle.std.proofs.Common.{◌≡◌, ◌≢◌, ℕ, zero, suc, ◌<◌, List, Option, Some, None, Result, Ok, Err, refl, sym, ap, ◌∙◌, arith}
use Rattle.lx_types.specs.declared.parts.Parts.{Parts}
use Rattle.lx_model.specs.declared.library.Spot.{Spot}
use Rattle.lx_model.specs.declared.library.EntryFault.{EntryFault}
use Rattle.lx_model.specs.declared.library.EntryFault.TheVariants as faults
use Rattle.lx_model.specs.Entries.{OrdinalOf, Stands, spot, fails, forwards, place_or_none, stands_at, followed, entry_count, Entry, entry_or_none, forwarded, ComesBack}
use Rattle.lx_model.proofs.Loops.{comes_back_loops, loop_comes_back}

-- ---- one place

followed_if : Stands → ℕ → List Parts → Result Spot EntryFault
unfolding followed
followed_if s n lib = elim s [ spot a ↦ Ok a | fails e ↦ Err e | forwards q ↦ followed n lib q ]

forwarded_if : Stands → ℕ → List Parts → Option OrdinalOf
unfolding forwarded
forwarded_if s n lib = elim s [ spot a ↦ None | fails e ↦ None | forwards q ↦ forwarded n lib q ]

followed_at : (n : ℕ) (lib : List Parts) (p : OrdinalOf) (s : Stands) → stands_at lib p ≡ s → followed (suc n) lib p ≡ followed_if s n lib
unfolding followed followed_if
followed_at n lib p s is = ap (λ (t : Stands). followed_if t n lib) is

forwarded_at : (n : ℕ) (lib : List Parts) (p : OrdinalOf) (s : Stands) → stands_at lib p ≡ s → forwarded (suc n) lib p ≡ forwarded_if s n lib
unfolding forwarded forwarded_if
forwarded_at n lib p s is = ap (λ (t : Stands). forwarded_if t n lib) is

follow_is : (n : ℕ) (lib : List Parts) (p q : OrdinalOf) → stands_at lib p ≡ forwards q → followed (suc n) lib p ≡ followed n lib q
unfolding followed_if
follow_is n lib p q is = followed_at n lib p (forwards q) is

step_is : (n : ℕ) (lib : List Parts) (p q : OrdinalOf) → stands_at lib p ≡ forwards q → forwarded (suc n) lib p ≡ forwarded n lib q
unfolding forwarded_if
step_is n lib p q is = forwarded_at n lib p (forwards q) is

pub spot-there : (lib : List Parts) (p : OrdinalOf) (s : Spot) → stands_at lib p ≡ spot s → Entry lib p ≡ Ok s
unfolding Entry followed_if
spot-there lib p s is = followed_at (entry_count lib) lib p (spot s) is

pub fault-there : (lib : List Parts) (p : OrdinalOf) (e : EntryFault) → stands_at lib p ≡ fails e → Entry lib p ≡ Err e
unfolding Entry followed_if
fault-there lib p e is = followed_at (entry_count lib) lib p (fails e) is

-- ---- more places

-- A walk that has come to an end stays there.
more_places : (n : ℕ) (lib : List Parts) (p : OrdinalOf) (r : Result Spot EntryFault) → followed n lib p ≡ r → r ≢ Err faults.ForwardLoop → followed (suc n) lib p ≡ r
unfolding followed followed_if
more_places zero lib p r e other = absurd (other (sym e))
more_places (suc n) lib p r e other = by (stands_at lib p) refl e (λ q f. more_places n lib q r f other)
  where
    by : (s : Stands) → stands_at lib p ≡ s → followed_if s n lib ≡ r → ((q : OrdinalOf) → followed n lib q ≡ r → followed (suc n) lib q ≡ r) → followed (suc (suc n)) lib p ≡ r
    by (spot a) is f again = followed_at (suc n) lib p (spot a) is ∙ f
    by (fails a) is f again = followed_at (suc n) lib p (fails a) is ∙ f
    by (forwards q) is f again = followed_at (suc n) lib p (forwards q) is ∙ again q f

-- ---- loops

one_more : (n : ℕ) (lib : List Parts) (a b c : OrdinalOf) → forwarded n lib a ≡ Some b → stands_at lib b ≡ forwards c → forwarded (suc n) lib a ≡ Some c
unfolding forwarded forwarded_if
one_more zero lib a b c e is = let same : a ≡ b = cc in step_is 0 lib a c (ap (stands_at lib) same ∙ is)
one_more (suc n) lib a b c e is = by (stands_at lib a) refl e (λ q f. one_more n lib q b c f is)
  where
    by : (s : Stands) → stands_at lib a ≡ s → forwarded_if s n lib ≡ Some b → ((q : OrdinalOf) → forwarded n lib q ≡ Some b → forwarded (suc n) lib q ≡ Some c) → forwarded (suc (suc n)) lib a ≡ Some c
    by (spot x) at f again = absurd cc
    by (fails x) at f again = absurd cc
    by (forwards q) at f again = step_is (suc n) lib a q at ∙ again q f

-- A loop is one too from the next place on.
still_back : (lib : List Parts) (p q : OrdinalOf) → stands_at lib p ≡ forwards q → (i j : ℕ) → i < j → (x : OrdinalOf) → forwarded i lib p ≡ Some x → forwarded j lib p ≡ Some x → ComesBack lib q
unfolding forwarded
still_back lib p q is i zero lt x e f = absurd (omega (arith, lt))
still_back lib p q is (suc i) (suc j) lt x e f = (i, j, omega (arith, lt), (x, sym (step_is i lib p q is) ∙ e, sym (step_is j lib p q is) ∙ f))
still_back lib p q is zero (suc j) lt x e f =
    let same : p ≡ x = cc in
    (0, suc j, omega arith, (q, refl, one_more j lib q x q (sym (step_is j lib p q is) ∙ f) (ap (stands_at lib) (sym same) ∙ is)))

entry_here : (lib : List Parts) (p q : OrdinalOf) → stands_at lib p ≡ forwards q → Entry lib p ≡ followed (entry_count lib) lib q
unfolding Entry
entry_here lib p q is = follow_is (entry_count lib) lib p q is

loop_next : (lib : List Parts) (p q : OrdinalOf) → stands_at lib p ≡ forwards q → Entry lib p ≡ Err faults.ForwardLoop → Entry lib q ≡ Err faults.ForwardLoop
loop_next lib p q is e =
    let back = loop_comes_back lib p e in
    comes_back_loops lib q (still_back lib p q is back.0 back.1 back.2 back.3.0 back.3.1 back.3.2)

by_result : (lib : List Parts) (p q : OrdinalOf) → stands_at lib p ≡ forwards q → (r : Result Spot EntryFault) → followed (entry_count lib) lib q ≡ r → Entry lib q ≡ r
unfolding Entry
by_result lib p q is (Ok s) e = more_places (entry_count lib) lib q (Ok s) e (λ f. absurd cc)
by_result lib p q is (Err faults.NoEntry) e = more_places (entry_count lib) lib q (Err faults.NoEntry) e (λ f. absurd cc)
by_result lib p q is (Err faults.Gate286) e = more_places (entry_count lib) lib q (Err faults.Gate286) e (λ f. absurd cc)
by_result lib p q is (Err faults.ForwardLoop) e = loop_next lib p q is (entry_here lib p q is ∙ e)

-- A forwarder leads where the place leads that it names.
forwarder_there : (lib : List Parts) (p q : OrdinalOf) → stands_at lib p ≡ forwards q → Entry lib p ≡ Entry lib q
forwarder_there lib p q is = entry_here lib p q is ∙ sym (by_result lib p q is (followed (entry_count lib) lib q) refl)

pub named-place : (lib : List Parts) (p : OrdinalOf) (next : Option OrdinalOf) → stands_at lib p ≡ place_or_none next → Entry lib p ≡ entry_or_none lib next
named-place lib p None is = fault-there lib p faults.NoEntry is
named-place lib p (Some q) is = forwarder_there lib p q is
