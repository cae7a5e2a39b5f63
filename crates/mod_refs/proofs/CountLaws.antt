-- What a root more does to the counts.
use Rattle.std.proofs.Common.{◌≡◌, ℕ, zero, suc, ◌+◌, ◌<◌, ◌==◌, Bool, true, false, not, cond, inl, inr, List, [], ◌∷◌, ◌++◌, length, get_or, set, Option, Some, None, option_to_list, refl, sym, ◌∙◌, ap, arith, length-set, get_or-set_same, get_or-set_other, ◌-◌}
use Rattle.std.specs.Prelude.{nat_lt, All, filter, count_by, reverse, reverse}
use Rattle.std.proofs.lemmas.Bool.{cases_eq, eq-eqb, ne_eqb, lt-ltb}
use Rattle.std.proofs.lemmas.List.Elements.{All-head, All-tail}
use Rattle.std.proofs.lemmas.List.Sums.{sum_by-cons}
use Rattle.load_model.specs.Modules.{Library, order_of}
use Rattle.load_model.specs.State.{Process, is_among, roots, reaches, Eager, new_process}
use Rattle.load_model.specs.Leaving.{without_one, freeing, exiting, left, keeping}
use Rattle.load_model.specs.ProcessCounts.{ProcessCounts, AreCountsOf, unreached, reach_count}
use Rattle.load_model.proofs.Residents.{any_counts}
use Rattle.mod_refs.specs.Counts.{one_if, AreCounted}

-- ---- counts and tests

pub count_cons : {X : Type 0} (f : X → Bool) (x : X) (xs : List X) → count_by f (x ∷ xs) ≡ one_if (f x) + count_by f xs
count_cons f x xs = sum_by-cons (λ y. cond (f y) 1 0) x xs

none_is : (n : ℕ) → (n == 0) ≡ not (nat_lt 0 n)
none_is zero = refl
none_is (suc n) =
    let more : 0 < suc n = omega arith in
    let other : suc n ≡ 0 → ⊥ = λ e. absurd (omega arith) in
    ne_eqb (suc n) 0 other ∙ ap not (sym (lt-ltb 0 (suc n) more))

-- ---- a root more

count_more : (f : ℕ → Bool) (s : Option ℕ) (m : ℕ) (xs : List ℕ) → count_by f (option_to_list s ++ (m ∷ xs)) ≡ count_by f (option_to_list s ++ xs) + one_if (f m)
count_more f None m xs = (let e = count_cons f m xs in omega (arith, e))
count_more f (Some r) m xs =
    let e = count_cons f r (m ∷ xs) in
    let d = count_cons f m xs in
    let g = count_cons f r xs in
    omega (arith, e, d, g)

loads_more : (loads ls : List ℕ) (m x : ℕ) → m < length loads → get_or loads x 0 ≡ count_by (λ other. other == x) ls →
    get_or (set loads m (get_or loads m 0 + 1)) x 0 ≡ count_by (λ other. other == x) (m ∷ ls)
loads_more loads ls m x within is = elim (cases_eq x m) [
  | inl same ↦
      let here : get_or (set loads m (get_or loads m 0 + 1)) x 0 ≡ get_or loads x 0 + 1 =
      ap (λ y. get_or (set loads m (get_or loads m 0 + 1)) y 0) same ∙ get_or-set_same loads m (get_or loads m 0 + 1) 0 within ∙ ap (λ y. get_or loads y 0 + 1) (sym same)
      in
      let one : one_if (m == x) ≡ 1 = ap one_if (eq-eqb m x (sym same)) in
      let e = count_cons (λ other. other == x) m ls in
      omega (arith, here, one, e, is)
  | inr other ↦
      let here = get_or-set_other loads m x (get_or loads m 0 + 1) 0 other in
      let none : one_if (m == x) ≡ 0 = ap one_if (ne_eqb m x (λ e. other (sym e))) in
      let e = count_cons (λ o. o == x) m ls in
      omega (arith, here, none, e, is)
]

filter_same : (f g : ℕ → Bool) (P : ℕ → Type 0) → ((x : ℕ) → P x → f x ≡ g x) → (xs : List ℕ) → All P xs → filter f xs ≡ filter g xs
filter_same f g P same [] h = refl
filter_same f g P same (x ∷ xs) h =
    ap (λ b. cond b (x ∷ filter f xs) (filter f xs)) (same x (All-head P x xs h))
    ∙ ap (λ ys. cond (g x) (x ∷ ys) ys) (filter_same f g P same xs (All-tail P x xs h))

-- a process reaches a module where it counts a root of it
reached_by : (lib : Library) (p : Process) (k n : ℕ) → n ≡ reach_count lib p k → nat_lt 0 n ≡ reaches lib p k
unfolding reaches
reached_by lib p k n is = ap (nat_lt 0) is ∙ sym (any_counts (λ root. is_among (order_of lib root) k) (roots p))

pub reaches_by : (lib : Library) (p : Process) (counts : ProcessCounts) (k : ℕ) → AreCountsOf lib p counts → k < length counts.reached → nat_lt 0 (get_or counts.reached k 0) ≡ reaches lib p k
reaches_by lib p counts k is there = reached_by lib p k (get_or counts.reached k 0) (is.reached k (omega (arith, is.reached_are, there)))

pub unreached_by : (lib : Library) (p : Process) (counts : ProcessCounts) (order : List ℕ) → AreCountsOf lib p counts → All (λ k. k < length counts.reached) order →
    filter (λ k. get_or counts.reached k 0 == 0) order ≡ unreached lib p order
unreached_by lib p counts order is within =
    filter_same _ _ (λ k. k < length counts.reached)
    (λ k below. none_is (get_or counts.reached k 0) ∙ ap not (reaches_by lib p counts k is below)) order within

-- ---- the counts after it

-- a load more
pub load_row : (lib : Library) (p : Process) (counts : ProcessCounts) (order reached attached : List ℕ) (m : ℕ) → AreCountsOf lib p counts → order ≡ order_of lib m →
    m < length counts.loads → All (λ k. k < length counts.reached) order → AreCounted order counts.reached reached →
    attached ≡ counts.attached ++ filter (λ k. get_or counts.reached k 0 == 0) order →
    AreCountsOf lib (record p { loads = m ∷ p.loads; attached = p.attached ++ unreached lib p order })
    (record { started = counts.started; loads = set counts.loads m (get_or counts.loads m 0 + 1); reached = reached; attached = attached })
load_row lib p counts order reached attached m is order_is there_is within counted att = record {
  started = is.started;
  attached = att ∙ ap (λ ys. ys ++ filter (λ k. get_or counts.reached k 0 == 0) order) is.attached ∙ ap (λ ys. p.attached ++ ys) (unreached_by lib p counts order is within);
  loads_are = length-set counts.loads m (get_or counts.loads m 0 + 1) ∙ is.loads_are;
  loads = λ x below. loads_more counts.loads p.loads m x there_is (is.loads x below);
  reached_are = counted.each ∙ is.reached_are;
  reached = λ k below.
      let there : k < length counts.reached = omega (arith, is.reached_are, below) in
      let now = counted.counts k there in
      let was = is.reached k below in
      let more = count_more (λ root. is_among (order_of lib root) k) p.started m p.loads in
      let one : one_if (is_among order k) ≡ one_if (is_among (order_of lib m) k) = ap (λ ys. one_if (is_among ys k)) order_is in
      omega (arith, now, was, more, one);
}

-- a program, where there was none
pub start_row : (lib : Library) (p : Process) (counts : ProcessCounts) (order reached attached : List ℕ) (m : ℕ) → AreCountsOf lib p counts → counts.started ≡ None → order ≡ order_of lib m →
    All (λ k. k < length counts.reached) order → AreCounted order counts.reached reached →
    attached ≡ counts.attached ++ filter (λ k. get_or counts.reached k 0 == 0) order →
    AreCountsOf lib (record p { started = Some m; attached = p.attached ++ unreached lib p order })
    (record { started = Some m; loads = counts.loads; reached = reached; attached = attached })
start_row lib p counts order reached attached m is idle order_is within counted att = record {
  started = refl;
  attached = att ∙ ap (λ ys. ys ++ filter (λ k. get_or counts.reached k 0 == 0) order) is.attached ∙ ap (λ ys. p.attached ++ ys) (unreached_by lib p counts order is within);
  loads_are = is.loads_are;
  loads = is.loads;
  reached_are = counted.each ∙ is.reached_are;
  reached = λ k below.
      let there : k < length counts.reached = omega (arith, is.reached_are, below) in
      let now = counted.counts k there in
      let was = is.reached k below in
      let none : p.started ≡ None = sym is.started ∙ idle in
      let before : count_by (λ root. is_among (order_of lib root) k) (roots p) ≡ count_by (λ root. is_among (order_of lib root) k) p.loads =
      ap (λ s. count_by (λ root. is_among (order_of lib root) k) (option_to_list s ++ p.loads)) none
      in
      let more = count_cons (λ root. is_among (order_of lib root) k) m p.loads in
      let one : one_if (is_among order k) ≡ one_if (is_among (order_of lib m) k) = ap (λ ys. one_if (is_among ys k)) order_is in
      omega (arith, now, was, before, more, one);
}

-- ---- a root less

pub without_count : (f : ℕ → Bool) (m : ℕ) (xs : List ℕ) → 0 < count_by (λ other. other == m) xs → count_by f (without_one m xs) + one_if (f m) ≡ count_by f xs
without_count f m [] some = absurd (omega (arith, some))
without_count f m (x ∷ xs) some = elim (cases_eq x m) [
  | inl same ↦
      let these : without_one m (x ∷ xs) ≡ xs = ap (λ b. cond b xs (x ∷ without_one m xs)) (eq-eqb x m same) in
      let left : count_by f (without_one m (x ∷ xs)) ≡ count_by f xs = ap (count_by f) these in
      let first : one_if (f x) ≡ one_if (f m) = ap (λ y. one_if (f y)) same in
      let e = count_cons f x xs in
      omega (arith, left, first, e)
  | inr other ↦
      let none : one_if (x == m) ≡ 0 = ap one_if (ne_eqb x m other) in
      let these : without_one m (x ∷ xs) ≡ x ∷ without_one m xs = ap (λ b. cond b xs (x ∷ without_one m xs)) (ne_eqb x m other) in
      let left : count_by f (without_one m (x ∷ xs)) ≡ one_if (f x) + count_by f (without_one m xs) = ap (count_by f) these ∙ count_cons f x (without_one m xs) in
      let d = count_cons (λ o. o == m) x xs in
      let later : 0 < count_by (λ o. o == m) xs = omega (arith, d, none, some) in
      let e = count_cons f x xs in
      let rest = without_count f m xs later in
      omega (arith, left, e, rest)
]

count_less : (f : ℕ → Bool) (s : Option ℕ) (m : ℕ) (xs : List ℕ) → 0 < count_by (λ other. other == m) xs →
    count_by f (option_to_list s ++ without_one m xs) + one_if (f m) ≡ count_by f (option_to_list s ++ xs)
count_less f None m xs some = without_count f m xs some
count_less f (Some r) m xs some =
    let e = count_cons f r (without_one m xs) in
    let d = count_cons f r xs in
    let g = without_count f m xs some in
    omega (arith, e, d, g)

loads_less : (loads ls : List ℕ) (m x : ℕ) → m < length loads → get_or loads x 0 ≡ count_by (λ other. other == x) ls → 0 < count_by (λ other. other == m) ls →
    get_or (set loads m (get_or loads m 0 - 1)) x 0 ≡ count_by (λ other. other == x) (without_one m ls)
loads_less loads ls m x within is some = (let less = without_count (λ other. other == x) m ls some in elim (cases_eq x m) [
  | inl same ↦
      let here : get_or (set loads m (get_or loads m 0 - 1)) x 0 ≡ get_or loads x 0 - 1 =
      ap (λ y. get_or (set loads m (get_or loads m 0 - 1)) y 0) same ∙ get_or-set_same loads m (get_or loads m 0 - 1) 0 within ∙ ap (λ y. get_or loads y 0 - 1) (sym same)
      in
      let one : one_if (m == x) ≡ 1 = ap one_if (eq-eqb m x (sym same)) in
      omega (arith, here, one, less, is)
  | inr other ↦
      let here = get_or-set_other loads m x (get_or loads m 0 - 1) 0 other in
      let none : one_if (m == x) ≡ 0 = ap one_if (ne_eqb m x (λ e. other (sym e))) in
      omega (arith, here, none, less, is)
])

-- the counts of a process that gave up a load
pub freed_counts : (lib : Library) (p : Process) (counts : ProcessCounts) (order reached : List ℕ) (m : ℕ) → AreCountsOf lib p counts → order ≡ order_of lib m →
    0 < get_or counts.loads m 0 → m < length counts.loads → AreCounted order reached counts.reached →
    (k : ℕ) → k < length lib → get_or reached k 0 ≡ reach_count lib (freeing m p) k
freed_counts lib p counts order reached m is order_is some there_is counted k below =
    let there : k < length reached = omega (arith, counted.each, is.reached_are, below) in
    let now = counted.counts k there in
    let was = is.reached k below in
    let held = is.loads m (omega (arith, is.loads_are, there_is)) in
    let holds : 0 < count_by (λ other. other == m) p.loads = omega (arith, held, some) in
    let less = count_less (λ root. is_among (order_of lib root) k) p.started m p.loads holds in
    let one : one_if (is_among order k) ≡ one_if (is_among (order_of lib m) k) = ap (λ ys. one_if (is_among ys k)) order_is in
    omega (arith, now, was, less, one)

-- a load less
pub free_row : (lib : Library) (p : Process) (e : Eager) (counts : ProcessCounts) (order reached attached : List ℕ) (m : ℕ) → AreCountsOf lib p counts → order ≡ order_of lib m →
    0 < get_or counts.loads m 0 → m < length counts.loads → AreCounted order reached counts.reached → All (λ k. k < length counts.reached) counts.attached →
    attached ≡ filter (λ k. nat_lt 0 (get_or reached k 0)) counts.attached →
    AreCountsOf lib (keeping lib e (freeing m p))
    (record { started = counts.started; loads = set counts.loads m (get_or counts.loads m 0 - 1); reached = reached; attached = attached })
unfolding keeping
free_row lib p e counts order reached attached m is order_is some there_is counted within att =
    let freed = freed_counts lib p counts order reached m is order_is some there_is counted in
    record {
      started = is.started;
      attached = att ∙ filter_same _ _ (λ k. k < length counts.reached) (λ k h. reached_by lib (freeing m p) k (get_or reached k 0) (freed k (omega (arith, is.reached_are, h)))) counts.attached within
          ∙ ap (filter (reaches lib (freeing m p))) is.attached;
      loads_are = length-set counts.loads m (get_or counts.loads m 0 - 1) ∙ is.loads_are;
      loads = λ x below.
          let held = is.loads m (omega (arith, is.loads_are, there_is)) in
          loads_less counts.loads p.loads m x there_is (is.loads x below) (omega (arith, held, some));
      reached_are = sym counted.each ∙ is.reached_are;
      reached = freed;
    }

-- what leaves with it
pub freed_left : (lib : Library) (p : Process) (counts : ProcessCounts) (order reached : List ℕ) (m : ℕ) → AreCountsOf lib p counts → order ≡ order_of lib m →
    0 < get_or counts.loads m 0 → m < length counts.loads → AreCounted order reached counts.reached → All (λ k. k < length counts.reached) counts.attached →
    reverse (filter (λ k. get_or reached k 0 == 0) counts.attached) ≡ left lib (freeing m p)
unfolding left
freed_left lib p counts order reached m is order_is some there_is counted within =
    let freed = freed_counts lib p counts order reached m is order_is some there_is counted in
    ap reverse (filter_same _ _ (λ k. k < length counts.reached)
    (λ k h. none_is (get_or reached k 0) ∙ ap not (reached_by lib (freeing m p) k (get_or reached k 0) (freed k (omega (arith, is.reached_are, h))))) counts.attached within
    ∙ ap (filter (λ k. not (reaches lib (freeing m p) k))) is.attached)

-- ---- no root

filter_none : (f : ℕ → Bool) (xs : List ℕ) → ((x : ℕ) → f x ≡ false) → filter f xs ≡ []
filter_none f [] none = refl
filter_none f (x ∷ xs) none = ap (λ b. cond b (x ∷ filter f xs) (filter f xs)) (none x) ∙ filter_none f xs none

filter_each : (f : ℕ → Bool) (xs : List ℕ) → ((x : ℕ) → f x ≡ true) → filter f xs ≡ xs
filter_each f [] all = refl
filter_each f (x ∷ xs) all = ap (λ b. cond b (x ∷ filter f xs) (filter f xs)) (all x) ∙ ap (λ ys. x ∷ ys) (filter_each f xs all)

exited : (lib : Library) (p : Process) (k : ℕ) → reaches lib (exiting p) k ≡ false
unfolding reaches
exited lib p k = refl

pub exit_row : (lib : Library) (p : Process) (e : Eager) (counts : ProcessCounts) → AreCountsOf lib new_process counts → AreCountsOf lib (keeping lib e (exiting p)) counts
unfolding keeping
exit_row lib p e counts is = record {
  started = is.started;
  attached = is.attached ∙ sym (filter_none (reaches lib (exiting p)) p.attached (exited lib p));
  loads_are = is.loads_are;
  loads = is.loads;
  reached_are = is.reached_are;
  reached = is.reached;
}

pub exited_left : (lib : Library) (p : Process) (counts : ProcessCounts) → AreCountsOf lib p counts → reverse counts.attached ≡ left lib (exiting p)
unfolding left
exited_left lib p counts is = ap reverse (is.attached ∙ sym (filter_each (λ k. not (reaches lib (exiting p) k)) p.attached (λ k. ap not (exited lib p k))))
