-- The history of a loader that closed over its processes.
use Rattle.proc_core.proofs.Words.{◌+◌, ◌<◌, [], About, about_of, add-one, ap, AreAll, AreOf, arith, Begins, BoardState, ended_of, Entry, eq-eqb, get_or, GoesOn, Holds, inl, inr, IsHistoryOf, IsLegal, IsPrefix, Joined, Known}
use Rattle.proc_core.proofs.Words.{length, List, ne_eqb, own_of, Owns, ProcState, refl, remove, same_Some, Some, subst, suc, sym, TableId, zero, ℕ, ◌∙◌, ◌∷◌, ◌≡◌, ◌≢◌, ◌⊎◌}
use Rattle.proc_core.proofs.Others.{own_entries, goes_on, numbered}

next : (first : ProcState) (rest : List ProcState) (k : ℕ) (d : ProcState) → get_or (first ∷ rest) (k + 1) d ≡ get_or rest k d
next first rest k d = rw add-one refl

pub owns_of : (lock : TableId) (first : ProcState) (rest : List ProcState) → AreOf lock (first ∷ rest) → AreAll (first ∷ rest) → Owns lock first rest
owns_of lock first rest of all = record {
  lock_is = of 0 first (omega arith);
  pid = all.numbers 0 first (omega arith);
  live = all.live first ∙ omega arith;
  others = λ k d inside. (
    ap (λ (s : ProcState). s.lock) (sym (next first rest k d)) ∙ of (k + 1) d (omega arith),
    ap (λ (s : ProcState). s.known.pid) (sym (next first rest k d)) ∙ (all.numbers (k + 1) d (omega arith) ∙ omega arith),
  );
}

-- what each made, as the first pass knows it at the end
own_first : (v : Known Entry About) → v.pid ≡ 1 → own_of v 1 ≡ v.mine
own_first v is = rw (eq-eqb v.pid 1 is) refl

own_other : (v : Known Entry About) (p : ℕ) → v.pid ≡ 1 → p ≢ 1 → own_of v p ≡ ended_of p v.ended
own_other v p is ne = rw (ne_eqb v.pid p (λ e. ne (sym e ∙ is))) refl

pub history_of : (lock : TableId) (first : ProcState) (rest : List ProcState) (v : Known Entry About) (b : BoardState) → Owns lock first rest → AreAll (first ∷ rest) → Holds first → Joined first rest 0 v → IsLegal b → b.history ≡ v.seen →
    ((p : ℕ) → own_entries p b.history ≡ own_of v p) → v.subject ≡ Some (record { library = b.library; failing = b.failing }) → IsHistoryOf (first ∷ rest) b.history
history_of lock first rest v b owns all holds joined legal seen own about =
    let h : List Entry = b.history in
    let same : record { library = b.library; failing = b.failing } ≡ about_of first = same_Some _ _ (sym about ∙ (joined.about ∙ holds.about)) in
    let goes : (p : ProcState) (m : ℕ) → Begins p v → p.known.pid ≡ m → own_of v m ≡ p.known.mine → GoesOn h p =
    λ p m begins pid mine. goes_on h p (subst (λ (xs : List Entry). IsPrefix p.known.seen xs) (sym seen) begins.seen) begins.own (own p.known.pid ∙ (ap (own_of v) pid ∙ mine)) in
    let one : GoesOn h first = goes first 1 joined.first_begins owns.pid (own_first v joined.pid ∙ joined.mine) in
    let other : (k : ℕ) (d : ProcState) → k < length rest → GoesOn h (get_or rest k d) =
    λ k d inside. goes (get_or rest k d) (k + 2) (joined.begins k d (omega arith) inside) (owns.others k d inside).1
    (own_other v (k + 2) joined.pid (λ (e : k + 2 ≡ 1). omega arith) ∙ joined.ended k d (omega arith) inside) in
    record {
      legal = λ d. subst (λ (a : About). IsLegal (record { library = a.library; failing = a.failing; history = h; keeper = 0 })) same legal;
      each = each_of h first rest one other;
      nobody = numbered (length (first ∷ rest)) h (λ p out. own p ∙ outside p out);
    }
  where
    each_of : (h : List Entry) (first : ProcState) (rest : List ProcState) → GoesOn h first → ((k : ℕ) (d : ProcState) → k < length rest → GoesOn h (get_or rest k d)) → (k : ℕ) (d : ProcState) → k < length (first ∷ rest) →
        GoesOn h (get_or (first ∷ rest) k d)
    each_of h first rest one other zero d inside = one
    each_of h first rest one other (suc k) d inside = other k d (omega arith)

    outside : (p : ℕ) → (p < 1) ⊎ (length (first ∷ rest) < p) → own_of v p ≡ []
    outside p (inl low) = own_other v p joined.pid (λ (e : p ≡ 1). omega arith) ∙ joined.none p (inl (omega arith))
    outside p (inr high) = own_other v p joined.pid (λ (e : p ≡ 1). omega arith) ∙ joined.none p (inr (omega arith))

-- a list is its first element and the others
pub headed : (ps : List ProcState) (first : ProcState) (rest : List ProcState) → 0 < length ps → first ≡ get_or ps 0 first → rest ≡ remove ps 0 → ps ≡ first ∷ rest
headed [] first rest some is others = absurd (omega arith)
headed (p ∷ ps) first rest some is others = ap (λ (s : ProcState). s ∷ ps) (sym is) ∙ ap (λ (xs : List ProcState). first ∷ xs) (sym others)
