-- The counts of all processes, one of which changes, and who reaches a module.
use Rattle.std.proofs.Common.{◌≡◌, ℕ, ◌+◌, ◌-◌, ◌<◌, ◌≤◌, ◌==◌, Bool, true, false, cond, inl, inr, List, length, get_or, set, sym, ◌∙◌, ap, subst, arith, get_or-set_same, get_or-set_other}
use Rattle.std.specs.Prelude.{All}
use Rattle.std.proofs.lemmas.Bool.{cases_eq, eqb-true, eq-eqb, ne_eqb}
use Rattle.std.proofs.lemmas.List.{get_or_default}
use Rattle.std.proofs.lemmas.List.FromFn.{get_or-range_with_len}
use Rattle.std.proofs.lemmas.List.Folds.{Any-from_list_any, list_any_at, list_any_none}
use Rattle.load_model.specs.Modules.{Library}
use Rattle.load_model.specs.State.{Process, Eager, with_process, pids, is_among, reaches, is_reached}
use Rattle.load_model.specs.ProcessCounts.{ProcessCounts, AreCountsOf}
use Rattle.mod_refs.specs.AllCounts.{AreCountsOfAll, AreKept, HaveModule, IsKept, no_counts, counts_at}

-- ---- numbers of processes

pub record IsPid (pid : ℕ) : Type 0 where
  pub least : 1 ≤ pid
  pub most : pid ≤ 16

pub pid_within : (pid : ℕ) → is_among pids pid ≡ true → IsPid pid
pid_within pid is =
    let some = Any-from_list_any (λ other. other == pid) pids is in
    let below : some.0 < 16 = some.2 in
    let here : get_or pids some.0 some.1 ≡ 1 + some.0 = get_or-range_with_len 1 16 some.0 some.1 below in
    let same : some.1 ≡ pid = eqb-true some.1 pid some.4 in
    record { least = omega (arith, here, same, some.3); most = omega (arith, here, same, some.3, below) }

pub is_pid : (pid : ℕ) → 1 ≤ pid → pid ≤ 16 → is_among pids pid ≡ true
is_pid pid least most =
    let at : get_or pids (pid - 1) 0 ≡ 1 + (pid - 1) = get_or-range_with_len 1 16 (pid - 1) 0 (omega (arith, least, most)) in
    let same : get_or pids (pid - 1) 0 ≡ pid = omega (arith, at, least) in
    list_any_at (λ other. other == pid) pids (pid - 1) 0 (omega (arith, least, most)) (eq-eqb (get_or pids (pid - 1) 0) pid same)

-- ---- the counts of one process

pub row_read : (all_counts : List ProcessCounts) (pid : ℕ) (r : ProcessCounts) → length all_counts ≡ 16 → is_among pids pid ≡ true → r ≡ get_or all_counts (pid - 1) r → r ≡ counts_at all_counts pid
row_read all_counts pid r long in_pids is =
    let pid_is = pid_within pid in_pids in
    is ∙ get_or_default all_counts (pid - 1) r no_counts (omega (arith, long, pid_is.least, pid_is.most))

-- the process's counts as they were read, in a state
pub counts_in : (lib : Library) (e : Eager) (all_counts : List ProcessCounts) (pid : ℕ) (r : ProcessCounts) → length all_counts ≡ 16 → is_among pids pid ≡ true → r ≡ get_or all_counts (pid - 1) r →
    AreCountsOfAll lib e all_counts → AreCountsOf lib (e.processes pid) r
counts_in lib e all_counts pid r long in_pids is are = subst (AreCountsOf lib (e.processes pid)) (sym (row_read all_counts pid r long in_pids is)) (are.each pid in_pids)

-- ---- the counts of one process change

pub row_set_same : (all_counts : List ProcessCounts) (pid : ℕ) (new : ProcessCounts) → length all_counts ≡ 16 → IsPid pid → counts_at (set all_counts (pid - 1) new) pid ≡ new
row_set_same all_counts pid new long is = get_or-set_same all_counts (pid - 1) new no_counts (omega (arith, long, is.least, is.most))

pub row_set_other : (all_counts : List ProcessCounts) (pid q : ℕ) (new : ProcessCounts) → IsPid pid → IsPid q → (q ≡ pid → ⊥) → counts_at (set all_counts (pid - 1) new) q ≡ counts_at all_counts q
row_set_other all_counts pid q new is q_is other = get_or-set_other all_counts (pid - 1) (q - 1) new no_counts (λ e. other (omega (arith, e, is.least, q_is.least)))

pub rows_changed : (lib : Library) (e : Eager) (p : Process) (all_counts : List ProcessCounts) (pid : ℕ) (new : ProcessCounts) → length all_counts ≡ 16 → is_among pids pid ≡ true → AreCountsOfAll lib e all_counts →
    AreCountsOf lib p new → AreCountsOfAll lib (with_process e pid p) (set all_counts (pid - 1) new)
unfolding with_process
rows_changed lib e p all_counts pid new long in_pids are is = record {
  each = λ q in_q.
      let pid_is = pid_within pid in_pids in
      let q_is = pid_within q in_q in
      elim (cases_eq q pid) [
        | inl same ↦
            let now : counts_at (set all_counts (pid - 1) new) q ≡ new = ap (counts_at (set all_counts (pid - 1) new)) same ∙ row_set_same all_counts pid new long pid_is in
            let Is : Bool → Type 0 = λ b. AreCountsOf lib (cond b p (e.processes q)) (counts_at (set all_counts (pid - 1) new) q) in
            subst Is (sym (eq-eqb q pid same)) (subst (AreCountsOf lib p) (sym now) is)
        | inr other ↦
            let now = row_set_other all_counts pid q new pid_is q_is other in
            let Is : Bool → Type 0 = λ b. AreCountsOf lib (cond b p (e.processes q)) (counts_at (set all_counts (pid - 1) new) q) in
            subst Is (sym (ne_eqb q pid other)) (subst (AreCountsOf lib (e.processes q)) (sym now) (are.each q in_q))
      ];
}

pub kept_changed : (lib : Library) (all_counts : List ProcessCounts) (pid : ℕ) (new : ProcessCounts) → length all_counts ≡ 16 → is_among pids pid ≡ true → AreKept lib all_counts → IsKept lib new →
    AreKept lib (set all_counts (pid - 1) new)
kept_changed lib all_counts pid new long in_pids are is = record {
  each = λ q in_q.
      let pid_is = pid_within pid in_pids in
      let q_is = pid_within q in_q in
      elim (cases_eq q pid) [
        | inl same ↦
            let now : counts_at (set all_counts (pid - 1) new) q ≡ new = ap (counts_at (set all_counts (pid - 1) new)) same ∙ row_set_same all_counts pid new long pid_is in
            subst (IsKept lib) (sym now) is
        | inr other ↦ subst (IsKept lib) (sym (row_set_other all_counts pid q new pid_is q_is other)) (are.each q in_q)
      ];
}

-- ---- who reaches a module

pub none_reaches : (lib : Library) (e : Eager) (m : ℕ) → ((q : ℕ) → 1 ≤ q → q ≤ 16 → reaches lib (e.processes q) m ≡ false) → is_reached lib e m ≡ false
unfolding is_reached
none_reaches lib e m none =
    list_any_none (λ q. reaches lib (e.processes q) m) pids
    (λ i d h.
    let below : i < 16 = h in
    let at : get_or pids i d ≡ 1 + i = get_or-range_with_len 1 16 i d below in
    subst (λ q. reaches lib (e.processes q) m ≡ false) (sym at) (none (1 + i) (omega arith) (omega (arith, below))))

pub some_reaches : (lib : Library) (e : Eager) (m q : ℕ) → 1 ≤ q → q ≤ 16 → reaches lib (e.processes q) m ≡ true → is_reached lib e m ≡ true
unfolding is_reached
some_reaches lib e m q least most is =
    let at : get_or pids (q - 1) 0 ≡ 1 + (q - 1) = get_or-range_with_len 1 16 (q - 1) 0 (omega (arith, least, most)) in
    let same : get_or pids (q - 1) 0 ≡ q = omega (arith, at, least) in
    list_any_at (λ other. reaches lib (e.processes other) m) pids (q - 1) 0 (omega (arith, least, most)) (ap (λ other. reaches lib (e.processes other) m) same ∙ is)

-- where one process would be another
pub reaches_beside : (lib : Library) (e : Eager) (pid : ℕ) (p : Process) (q m : ℕ) → (q ≡ pid → ⊥) → reaches lib ((with_process e pid p).processes q) m ≡ reaches lib (e.processes q) m
unfolding with_process
reaches_beside lib e pid p q m other = ap (λ b. reaches lib (cond b p (e.processes q)) m) (ne_eqb q pid other)

pub reaches_instead : (lib : Library) (e : Eager) (pid : ℕ) (p : Process) (q m : ℕ) → q ≡ pid → reaches lib ((with_process e pid p).processes q) m ≡ reaches lib p m
unfolding with_process
reaches_instead lib e pid p q m same = ap (λ b. reaches lib (cond b p (e.processes q)) m) (eq-eqb q pid same)

-- ---- modules that all counts have

pub have_module : (lib : Library) (all_counts : List ProcessCounts) (k : ℕ) → AreKept lib all_counts → k < length lib → HaveModule k all_counts
have_module lib all_counts k kept below = λ pid in_pids.
    (let is = (kept.each pid in_pids).is in record { loads = omega (arith, below, is.loads_are); reached = omega (arith, below, is.reached_are) })

pub have_modules : (lib : Library) (all_counts : List ProcessCounts) (ks : List ℕ) → AreKept lib all_counts → All (λ k. k < length lib) ks → All (λ k. HaveModule k all_counts) ks
have_modules lib all_counts ks kept within = λ i d h. have_module lib all_counts (get_or ks i d) kept (within i d h)
