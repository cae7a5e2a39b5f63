-- The counts of a legal history.
use Rattle.std.proofs.Common.{◌≡◌, ℕ, ◌<◌, ◌≤◌, ◌==◌, ◌∷◌, [], ◌||◌, true, false, List, length, get_or, option_to_list, refl, sym, ◌∙◌, ap, arith}
use Rattle.std.specs.Prelude.{All}
use Rattle.std.specs.List.{list_any}
use Rattle.std.proofs.lemmas.Bool.{eq-eqb}
use Rattle.std.proofs.lemmas.List.{get_or_default}
use Rattle.std.proofs.lemmas.List.Folds.{list_any-append, list_any_at}
use Rattle.std.proofs.Math.Bool.{or-true}
use Rattle.lx_model.specs.Laws.{OrderEndsWithItself}
use Rattle.load_model.specs.Modules.{Library, order_of}
use Rattle.load_model.specs.State.{Process, is_among, reaches, count_of}
use Rattle.load_model.specs.Histories.{state_after}
use Rattle.load_model.specs.Fitness.{ReachedIsFit}
use Rattle.load_model.specs.Bounds.{CountsAreSmall}
use Rattle.load_model.specs.Laws.{AttachedIsReached}
use Rattle.load_model.specs.ProcessCounts.{ProcessCounts, AreCountsOf}
use Rattle.mod_refs.specs.AllCounts.{counts_at}
use Rattle.mod_refs.specs.Laws.{LegalCountsAreKept}

among_own : (xs : List ℕ) (i d : ℕ) → i < length xs → is_among xs (get_or xs i d) ≡ true
among_own xs i d h = list_any_at (λ other. other == get_or xs i d) xs i d h (eq-eqb (get_or xs i d) (get_or xs i d) refl)

-- a module is of its own order
pub own_order : OrderEndsWithItself → (lib : Library) (m : ℕ) → is_among (order_of lib m) m ≡ true
unfolding order_of
own_order ends lib m =
    let last = ends lib m in
    ap (λ xs. is_among xs m) last.1 ∙ list_any-append (λ other. other == m) last.0 (m ∷ []) ∙ ap (λ b. is_among last.0 m || (b || false)) (eq-eqb m m refl) ∙ or-true (is_among last.0 m)

-- what a process holds it reaches
loads_reached : OrderEndsWithItself → (lib : Library) (p : Process) (i d : ℕ) → i < length p.loads → reaches lib p (get_or p.loads i d) ≡ true
unfolding reaches
loads_reached ends lib p i d h =
    let m = get_or p.loads i d in
    list_any-append (λ root. is_among (order_of lib root) (get_or p.loads i d)) (option_to_list p.started) p.loads
    ∙ ap (λ b. list_any (λ root. is_among (order_of lib root) (get_or p.loads i d)) (option_to_list p.started) || b)
    (list_any_at (λ root. is_among (order_of lib root) (get_or p.loads i d)) p.loads i d h (own_order ends lib (get_or p.loads i d)))
    ∙ or-true (list_any (λ root. is_among (order_of lib root) (get_or p.loads i d)) (option_to_list p.started))

few_loads : (lib : Library) (p : Process) (counts : ProcessCounts) → AreCountsOf lib p counts → ((m : ℕ) → count_of p m ≤ 65535) → All (λ n. n ≤ 65535) counts.loads
few_loads lib p counts is few = λ i d h.
    let same : get_or counts.loads i d ≡ get_or counts.loads i 0 = get_or_default counts.loads i d 0 h in
    let here = is.loads i (omega (arith, h, is.loads_are)) in
    let low = few i in
    omega (arith, same, here, low)

pub legal_rows : OrderEndsWithItself → ReachedIsFit → AttachedIsReached → CountsAreSmall → LegalCountsAreKept
legal_rows ends fit attached small lib failing contents h all_counts legal are = record {
  each = λ pid in_pids.
      let e = state_after lib failing h in
      record {
        process = e.processes pid;
        is = are.each pid in_pids;
        loads = λ i d below. (fit lib failing contents h legal pid (get_or (e.processes pid).loads i d) (loads_reached ends lib (e.processes pid) i d below)).0;
        attached = λ i d below.
            (fit lib failing contents h legal pid (get_or (e.processes pid).attached i d)
            (sym (attached lib failing contents h legal pid (get_or (e.processes pid).attached i d)) ∙ among_own (e.processes pid).attached i d below)).0;
        few = few_loads lib (e.processes pid) (counts_at all_counts pid) (are.each pid in_pids) (λ m. small lib failing contents h pid m legal);
      };
}
