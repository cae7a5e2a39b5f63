-- What the counts of a process keep through a load and a free, and what its counts allow.
use Rattle.std.proofs.Common.{◌≡◌, ℕ, ◌+◌, ◌-◌, ◌<◌, ◌≤◌, ◌==◌, Bool, true, false, not, cond, inl, inr, List, [], ◌∷◌, ◌++◌, length, get_or, refl, sym, ◌∙◌, ap, subst, arith}
use Rattle.std.specs.Prelude.{All, Contains, filter, count_by, reverse}
use Rattle.std.proofs.lemmas.Bool.{cases_eq, eq-eqb, ne_eqb, not-true}
use Rattle.std.proofs.lemmas.List.{get_or_default, get_or-reverse, length-reverse}
use Rattle.std.proofs.lemmas.List.Elements.{All-nil, All-cons, All-head, All-tail, All-append, All-filter, All-same, Contains-get_or, filter_passes}
use Rattle.lx_model.specs.Laws.{OrderIsInLibrary}
use Rattle.lx_model.specs.Reach.{Order}
use Rattle.load_model.specs.Modules.{Library, order_of}
use Rattle.load_model.specs.State.{Process, Eager, new_process, reaches}
use Rattle.load_model.specs.Leaving.{without_one, freeing, exiting, left, keeping}
use Rattle.load_model.specs.Entering.{holding, attaching}
use Rattle.load_model.specs.declared.deeds.How.{How}
use Rattle.load_model.specs.declared.deeds.How.TheVariants.{Start, Load}
use Rattle.load_model.specs.ProcessCounts.{ProcessCounts, AreCountsOf, unreached}
use Rattle.mod_refs.specs.Counts.{one_if}
use Rattle.mod_refs.specs.CountLaws.{CountsHaveRoom, HeldIsCounted}
use Rattle.mod_refs.proofs.Counts.{counted_within}
use Rattle.mod_refs.proofs.CountLaws.{count_cons}
use Rattle.mod_refs.specs.AllCounts.{IsKept}
use Rattle.mod_refs.specs.Changes.{entered}

-- ---- an order

pub order_within : OrderIsInLibrary → (lib : Library) (m n : ℕ) (order : List ℕ) → order ≡ Order lib m → m < length lib → n ≡ length lib → All (λ k. k < n) order
order_within in_lib lib m n order is below long = λ i d h.
    let there = in_lib lib m (get_or order i d) below (subst (λ xs. Contains xs (get_or order i d)) is (Contains-get_or order i d h)) in
    omega (arith, there, long)

-- the process that attached what an order has, as a module's own
pub as_entered : (lib : Library) (how : How) (p : Process) (new : ProcessCounts) (m : ℕ) (order : List ℕ) → order ≡ order_of lib m →
    AreCountsOf lib (holding how m (attaching (unreached lib p order) p)) new → AreCountsOf lib (entered lib how m p) new
as_entered lib how p new m order same is = subst (λ ms. AreCountsOf lib (holding how m (attaching (unreached lib p ms) p)) new) same is

-- one more can be counted of each of its modules
pub order_has_room : CountsHaveRoom → (lib : Library) (counts : ProcessCounts) (order : List ℕ) → IsKept lib counts → length lib ≤ 64 → All (λ k. get_or counts.reached k 0 < 4294967295) order
order_has_room room lib counts order kept few = λ i d h. room lib kept.process counts kept.is few kept.loads kept.few (get_or order i d)

-- what is held is a module of the library
pub held_within : (lib : Library) (counts : ProcessCounts) (m : ℕ) → IsKept lib counts → 0 < get_or counts.loads m 0 → m < length lib
held_within lib counts m kept some = (let there = counted_within counts.loads m some in omega (arith, there, kept.is.loads_are))

-- each of its modules has a count where the last of them is held
pub order_counted : HeldIsCounted → OrderIsInLibrary → (lib : Library) (counts : ProcessCounts) (m : ℕ) (order : List ℕ) → IsKept lib counts → 0 < get_or counts.loads m 0 → order ≡ Order lib m →
    All (λ k. 0 < get_or counts.reached k 0) order
unfolding order_of
order_counted counted in_lib lib counts m order kept some is =
    All-same (λ k. 0 < get_or counts.reached k 0) order (Order lib m) is
    (counted lib kept.process counts m kept.is some (order_within in_lib lib m (length lib) (Order lib m) refl (held_within lib counts m kept some) refl))

-- ---- a load more

few_more : (lib : Library) (loads ls : List ℕ) (m : ℕ) → length loads ≡ length lib → ((k : ℕ) → k < length lib → get_or loads k 0 ≡ count_by (λ other. other == k) (m ∷ ls)) →
    ((k : ℕ) → k < length lib → count_by (λ other. other == k) ls ≤ 65535) → (count_by (λ other. other == m) ls ≡ 65535 → ⊥) → All (λ n. n ≤ 65535) loads
few_more lib loads ls m long are few full = λ i d h.
    let there : i < length lib = omega (arith, h, long) in
    let here = are i there in
    let split = count_cons (λ other. other == i) m ls in
    let old = few i there in
    let same : get_or loads i d ≡ get_or loads i 0 = get_or_default loads i d 0 h in
    elim (cases_eq m i) [
      | inl e ↦
          let one : one_if (m == i) ≡ 1 = ap one_if (eq-eqb m i e) in
          let not_full : count_by (λ other. other == i) ls ≡ 65535 → ⊥ = λ f. full (ap (λ k. count_by (λ other. other == k) ls) e ∙ f) in
          omega (arith, same, here, split, old, one, not_full)
      | inr e ↦ (let none : one_if (m == i) ≡ 0 = ap one_if (ne_eqb m i e) in omega (arith, same, here, split, old, none))
    ]

few_counts : (lib : Library) (counts : ProcessCounts) → (kept : IsKept lib counts) → (k : ℕ) → k < length lib → count_by (λ other. other == k) kept.process.loads ≤ 65535
few_counts lib counts kept k h =
    let low = kept.few k 0 (omega (arith, h, kept.is.loads_are)) in
    let is = kept.is.loads k h in
    omega (arith, low, is)

attached_more : OrderIsInLibrary → (lib : Library) (counts : ProcessCounts) (m : ℕ) → (kept : IsKept lib counts) → m < length lib →
    All (λ k. k < length lib) (kept.process.attached ++ unreached lib kept.process (order_of lib m))
unfolding order_of
attached_more in_lib lib counts m kept below =
    All-append (λ k. k < length lib) kept.process.attached (unreached lib kept.process (order_of lib m)) kept.attached
    (All-filter (λ k. not (reaches lib kept.process k)) (λ k. k < length lib) (order_of lib m) (order_within in_lib lib m (length lib) (Order lib m) refl below refl))

pub kept_load : OrderIsInLibrary → (lib : Library) (counts new : ProcessCounts) (m : ℕ) → (kept : IsKept lib counts) → m < length lib → (get_or counts.loads m 0 ≡ 65535 → ⊥) →
    AreCountsOf lib (entered lib Load m kept.process) new → IsKept lib new
kept_load in_lib lib counts new m kept below full is = record {
  process = entered lib Load m kept.process;
  is = is;
  loads = All-cons (λ k. k < length lib) m kept.process.loads below kept.loads;
  attached = attached_more in_lib lib counts m kept below;
  few = few_more lib new.loads kept.process.loads m is.loads_are is.loads (few_counts lib counts kept) (λ e. full (kept.is.loads m below ∙ e));
}

few_same : (lib : Library) (loads ls : List ℕ) → length loads ≡ length lib → ((k : ℕ) → k < length lib → get_or loads k 0 ≡ count_by (λ other. other == k) ls) →
    ((k : ℕ) → k < length lib → count_by (λ other. other == k) ls ≤ 65535) → All (λ n. n ≤ 65535) loads
few_same lib loads ls long are few = λ i d h.
    let there : i < length lib = omega (arith, h, long) in
    let same : get_or loads i d ≡ get_or loads i 0 = get_or_default loads i d 0 h in
    let here = are i there in
    let low = few i there in
    omega (arith, same, here, low)

pub kept_start : OrderIsInLibrary → (lib : Library) (counts new : ProcessCounts) (m : ℕ) → (kept : IsKept lib counts) → m < length lib →
    AreCountsOf lib (entered lib Start m kept.process) new → IsKept lib new
kept_start in_lib lib counts new m kept below is = record {
  process = entered lib Start m kept.process;
  is = is;
  loads = kept.loads;
  attached = attached_more in_lib lib counts m kept below;
  few = few_same lib new.loads kept.process.loads is.loads_are is.loads (few_counts lib counts kept);
}

-- ---- a load less

without_within : (n m : ℕ) (xs : List ℕ) → All (λ x. x < n) xs → All (λ x. x < n) (without_one m xs)
without_within n m [] within = within
without_within n m (x ∷ xs) within = by_test (x == m) (without_within n m xs (All-tail (λ y. y < n) x xs within))
  where
    by_test : (b : Bool) → All (λ y. y < n) (without_one m xs) → All (λ y. y < n) (cond b xs (x ∷ without_one m xs))
    by_test true rest = All-tail (λ y. y < n) x xs within
    by_test false rest = All-cons (λ y. y < n) x (without_one m xs) (All-head (λ y. y < n) x xs within) rest

without_few : (f : ℕ → Bool) (m : ℕ) (xs : List ℕ) → count_by f (without_one m xs) ≤ count_by f xs
without_few f m [] = omega arith
without_few f m (x ∷ xs) = (let e = count_cons f x xs in let d = count_cons f x (without_one m xs) in let rest = without_few f m xs in by_test (x == m) e d rest)
  where
    by_test : (b : Bool) → count_by f (x ∷ xs) ≡ one_if (f x) + count_by f xs → count_by f (x ∷ without_one m xs) ≡ one_if (f x) + count_by f (without_one m xs) →
        count_by f (without_one m xs) ≤ count_by f xs → count_by f (cond b xs (x ∷ without_one m xs)) ≤ count_by f (x ∷ xs)
    by_test true e d rest = omega (arith, e)
    by_test false e d rest = omega (arith, e, d, rest)

pub kept_free : (lib : Library) (counts new : ProcessCounts) (e : Eager) (m : ℕ) → (kept : IsKept lib counts) → AreCountsOf lib (keeping lib e (freeing m kept.process)) new → IsKept lib new
unfolding keeping
kept_free lib counts new e m kept is = record {
  process = keeping lib e (freeing m kept.process);
  is = is;
  loads = without_within (length lib) m kept.process.loads kept.loads;
  attached = All-filter (reaches lib (freeing m kept.process)) (λ k. k < length lib) kept.process.attached kept.attached;
  few = few_same lib new.loads (without_one m kept.process.loads) is.loads_are is.loads
      (λ k h. (let less = without_few (λ other. other == k) m kept.process.loads in let old = few_counts lib counts kept k h in omega (arith, less, old)));
}

pub kept_exit : (lib : Library) (counts new : ProcessCounts) (e : Eager) → (kept : IsKept lib counts) → AreCountsOf lib (keeping lib e (exiting kept.process)) new → IsKept lib new
unfolding keeping
kept_exit lib counts new e kept is = record {
  process = keeping lib e (exiting kept.process);
  is = is;
  loads = All-nil (λ k. k < length lib);
  attached = All-filter (reaches lib (exiting kept.process)) (λ k. k < length lib) kept.process.attached kept.attached;
  few = few_same lib new.loads [] is.loads_are is.loads (λ k h. omega arith);
}

-- ---- nothing yet

pub kept_new : (lib : Library) (counts : ProcessCounts) → AreCountsOf lib new_process counts → IsKept lib counts
kept_new lib counts is = record {
  process = new_process;
  is = is;
  loads = All-nil (λ k. k < length lib);
  attached = All-nil (λ k. k < length lib);
  few = few_same lib counts.loads [] is.loads_are is.loads (λ k h. omega arith);
}

-- ---- what is attached, and what leaves

All-reverse : (P : ℕ → Type 0) (xs : List ℕ) → All P xs → All P (reverse xs)
All-reverse P xs all = λ i d h.
    let long = length-reverse xs in
    let below : i < length xs = omega (arith, h, long) in
    subst P (sym (get_or-reverse xs i d below)) (all (length xs - 1 - i) d (omega (arith, below)))

pub joined_within : OrderIsInLibrary → (lib : Library) (p : Process) (m : ℕ) → m < length lib → All (λ k. k < length lib) (unreached lib p (order_of lib m))
unfolding order_of
joined_within in_lib lib p m below =
    All-filter (λ k. not (reaches lib p k)) (λ k. k < length lib) (order_of lib m) (order_within in_lib lib m (length lib) (Order lib m) refl below refl)

pub left_within : (lib : Library) (p : Process) → All (λ k. k < length lib) p.attached → All (λ k. k < length lib) (left lib p)
unfolding left
left_within lib p within =
    All-reverse (λ k. k < length lib) (filter (λ k. not (reaches lib p k)) p.attached) (All-filter (λ k. not (reaches lib p k)) (λ k. k < length lib) p.attached within)

-- what leaves is not reached
pub left_unreached : (lib : Library) (p : Process) → All (λ k. reaches lib p k ≡ false) (left lib p)
unfolding left
left_unreached lib p =
    All-reverse (λ k. reaches lib p k ≡ false) (filter (λ k. not (reaches lib p k)) p.attached)
    (λ i d h. not-true (reaches lib p (get_or (filter (λ k. not (reaches lib p k)) p.attached) i d)) (filter_passes (λ k. not (reaches lib p k)) p.attached i d h))
