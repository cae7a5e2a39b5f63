-- A process that has done nothing.
use Rattle.proc_core.proofs.Words.{◌+◌, ◌++◌, ◌<◌, [], About, AllDealt, ap, arith, at_start, dite, Entry, eq-eqb, fixed_bytes, get_or, get_or_append_left, get_or_push, Holds, Idle, is_among, IsDealt, IsNew, Kept, Known, length}
use Rattle.proc_core.proofs.Words.{List, live_of, ne_eqb, new_view, NewStands, NothingIsLegal, Option, pids, proc_state, ProcessView, range_with_len, refl, Seat, Some, subst, suc, sym, TableId, true, zero, ℕ, ℕ_discrete, ◌∙◌, ◌∷◌}
use Rattle.proc_core.proofs.Words.{◌≡◌, ◌≤◌}

-- a range has what lies in it
pub among_range : (len a n : ℕ) → a ≤ n → n < a + len → is_among (range_with_len a len) n ≡ true
among_range zero a n low high = absurd (omega arith)
among_range (suc len) a n low high = dite (ℕ_discrete a n)
    (λ e. rw (eq-eqb a n e) refl)
    (λ ne. rw (ne_eqb a n ne) (among_range len (a + 1) n (omega arith) (omega arith)))

pub among : (n : ℕ) → 0 < n → n ≤ 16 → is_among pids n ≡ true
among n low high = among_range 16 1 n (omega arith) (omega arith)

pub new_holds : NothingIsLegal → NewStands → (lock : TableId) (about : About) (pid live : ℕ) → 0 < pid → pid ≤ 16 →
    Holds (record { lock = lock; known = (at_start {X = Kept} (Some about) pid live).0; view = new_view about.library pid })
new_holds legal stands lock about pid live low high = record {
  process = among pid low high;
  number = refl;
  about = refl;
  legal = legal about.library about.failing (fixed_bytes about.library);
  own = refl;
  stands = record { library = refl; residences = refl; stands = stands about.library about.failing (fixed_bytes about.library) pid; shown = tt };
  apart = refl;
}

-- ---- processes that are dealt

pub dealt_at : (lock : TableId) (about : About) (n : ℕ) (passes : List (Seat (Option Kept) (Known Entry About))) (k : ℕ) (pass : Seat (Option Kept) (Known Entry About)) → AllDealt lock (Some about) n passes → k < n →
    pass ≡ get_or passes k pass → IsDealt lock (Some about) n k pass
dealt_at lock about n passes k pass all inside is = subst (IsDealt lock (Some about) n k) (sym is) (all.each k pass inside)

pub dealt_holds : NothingIsLegal → NewStands → (lock : TableId) (about : About) (n k : ℕ) (pass : Seat (Option Kept) (Known Entry About)) (v : ProcessView) → IsDealt lock (Some about) n k pass → k < 16 →
    v ≡ new_view about.library pass.me.0.pid → Idle pass.me × Holds (proc_state pass v)
dealt_holds legal stands lock about n k pass v is small view =
    let known : pass.me.0 ≡ (at_start {X = Kept} (Some about) (k + 1) (live_of k n)).0 = ap (λ m. m.0) is.1 in
    let shown : v ≡ new_view about.library (k + 1) = view ∙ ap (λ (w : Known Entry About). new_view about.library w.pid) known in
    let base : Holds (record { lock = pass.table_id; known = (at_start {X = Kept} (Some about) (k + 1) (live_of k n)).0; view = new_view about.library (k + 1) }) =
    new_holds legal stands pass.table_id about (k + 1) (live_of k n) (omega arith) (omega arith) in
    let with_view : Holds (record { lock = pass.table_id; known = (at_start {X = Kept} (Some about) (k + 1) (live_of k n)).0; view = v }) =
    subst (λ (u : ProcessView). Holds (record { lock = pass.table_id; known = (at_start {X = Kept} (Some about) (k + 1) (live_of k n)).0; view = u })) (sym shown) base in (
      (ap (λ m. m.0.ticket) is.1, ap (λ m. m.0.turn) is.1, ap (λ m. m.1) is.1),
      subst (λ (w : Known Entry About). Holds (record { lock = pass.table_id; known = w; view = v })) (sym known) with_view,
    )

pub dealt_new : (lock : TableId) (about : About) (n k : ℕ) (pass : Seat (Option Kept) (Known Entry About)) (v : ProcessView) → IsDealt lock (Some about) n k pass → v ≡ new_view about.library pass.me.0.pid →
    IsNew lock about n k (proc_state pass v)
dealt_new lock about n k pass v is view = (is.0, ap (λ m. m.0) is.1, view ∙ ap (λ m. new_view about.library m.0.pid) is.1)

pub each_more : {A : Type 0} (P : ℕ → A → Type 0) (xs : List A) (x : A) (n : ℕ) → length xs ≡ n → ((k : ℕ) (d : A) → k < n → P k (get_or xs k d)) → P n x → (k : ℕ) (d : A) → k < n + 1 → P k (get_or (xs ++ x ∷ []) k d)
each_more P xs x n is all here k d inside = dite (ℕ_discrete k n)
    (λ e. subst (λ (j : ℕ). P j (get_or (xs ++ x ∷ []) j d)) (sym e) (subst (P n) (sym (get_or_push xs x d n is)) here))
    (λ ne. subst (P k) (sym (get_or_append_left xs (x ∷ []) d k (omega arith))) (all k d (omega arith)))
