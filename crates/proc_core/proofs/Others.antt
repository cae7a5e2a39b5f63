-- Entries of others, told by filters.
use Rattle.proc_core.proofs.Words.{◌++◌, ◌<◌, ◌==◌, [], AllByRecursion, ap, append-nil, append_cancel_left, AreOthers, arith, by_pid, dite, Entry, eq-eqb, filter-append, GoesOn, inl, inr, IsPrefix, List, ne_eqb, ProcState, refl}
use Rattle.proc_core.proofs.Words.{sym, ℕ, ℕ_discrete, ◌∙◌, ◌∷◌, ◌≡◌, ◌≢◌, ◌≤◌, ◌⊎◌}

abbrev pub own_entries : ℕ → List Entry → List Entry
own_entries pid h = by_pid (λ (x : Entry). x.pid) pid h

-- ---- nobody's entries

own_head : (pid : ℕ) (x : Entry) (xs : List Entry) → x.pid ≡ pid → own_entries pid (x ∷ xs) ≡ x ∷ own_entries pid xs
own_head pid x xs is = rw (eq-eqb x.pid pid is) refl

own_skip : (pid : ℕ) (x : Entry) (xs : List Entry) → x.pid ≢ pid → own_entries pid (x ∷ xs) ≡ own_entries pid xs
own_skip pid x xs ne = rw (ne_eqb x.pid pid ne) refl

own_last : (pid : ℕ) (x : Entry) → x.pid ≡ pid → own_entries pid (x ∷ []) ≡ x ∷ []
own_last pid x is = own_head pid x [] is

pub own_one : (pid : ℕ) (h : List Entry) (x : Entry) → x.pid ≡ pid → own_entries pid (h ++ x ∷ []) ≡ own_entries pid h ++ x ∷ []
own_one pid h x is = filter-append (λ (y : Entry). y.pid == pid) h (x ∷ []) ∙ ap (λ (xs : List Entry). own_entries pid h ++ xs) (own_last pid x is)

not_cons : (x : Entry) (xs : List Entry) → x ∷ xs ≡ [] → ⊥
not_cons x xs e = cc

pub others_of : (pid : ℕ) (more : List Entry) → own_entries pid more ≡ [] → AreOthers pid more
others_of pid [] none = tt
others_of pid (x ∷ more) none = dite (ℕ_discrete x.pid pid)
    (λ is. absurd (not_cons x (own_entries pid more) (sym (own_head pid x more is) ∙ none)))
    (λ ne. (ne_eqb pid x.pid (λ e. ne (sym e)), others_of pid more (sym (own_skip pid x more ne) ∙ none)))

-- what goes on with a process's own list as it was is of others
pub others_after : (pid : ℕ) (seen more mine : List Entry) → own_entries pid seen ≡ mine → own_entries pid (seen ++ more) ≡ mine → AreOthers pid more
others_after pid seen more mine own all =
    others_of pid more
    (append_cancel_left (own_entries pid seen) (own_entries pid more) []
    (sym (filter-append (λ (x : Entry). x.pid == pid) seen more) ∙ (all ∙ (sym own ∙ sym (append-nil (own_entries pid seen))))))

pub goes_on : (h : List Entry) (p : ProcState) → IsPrefix p.known.seen h → own_entries p.known.pid p.known.seen ≡ p.known.mine → own_entries p.known.pid h ≡ p.known.mine → GoesOn h p
goes_on h p seen own all = record {
  more = seen.0;
  seen = sym seen.1;
  others = others_after p.known.pid p.known.seen seen.0 p.known.mine own (ap (own_entries p.known.pid) seen.1 ∙ all);
  own = all;
}

-- ---- numbers of processes

tail_none : (pid : ℕ) (x : Entry) (xs : List Entry) → own_entries pid (x ∷ xs) ≡ [] → own_entries pid xs ≡ []
tail_none pid x xs none = dite (ℕ_discrete x.pid pid)
    (λ is. absurd (not_cons x (own_entries pid xs) (sym (own_head pid x xs is) ∙ none)))
    (λ ne. sym (own_skip pid x xs ne) ∙ none)

-- where no other number has an entry, each is from 1 to n
pub numbered : (n : ℕ) (h : List Entry) → ((p : ℕ) → (p < 1) ⊎ (n < p) → own_entries p h ≡ []) → AllByRecursion (λ (x : Entry). (1 ≤ x.pid) × (x.pid ≤ n)) h
numbered n [] none = tt
numbered n (x ∷ h) none = (
  (
    (let not_low : x.pid < 1 → ⊥ = λ low. not_cons x (own_entries x.pid h) (sym (own_head x.pid x h refl) ∙ none x.pid (inl low)) in omega arith),
    (let not_high : n < x.pid → ⊥ = λ high. not_cons x (own_entries x.pid h) (sym (own_head x.pid x h refl) ∙ none x.pid (inr high)) in omega arith),
  ),
  numbered n h (λ p out. tail_none p x h (none p out)),
)
