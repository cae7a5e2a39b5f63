-- One more pass is joined into the first.
use Rattle.proc_core.proofs.Words.{◌+◌, ◌++◌, ◌<◌, [], About, ap, append-nil, append_assoc, arith, Begins, dite, ended_of, Entry, eq-eqb, get_or, Holds, inl, inr, IsPrefix, Joined, joining, Known, length, List, ne_eqb, Owns}
use Rattle.proc_core.proofs.Words.{ProcState, refl, subst, sym, ℕ, ℕ_discrete, ◌∙◌, ◌≡◌, ◌⊎◌}

trans : {A : Type 0} (xs ys zs : List A) → IsPrefix xs ys → IsPrefix ys zs → IsPrefix xs zs
trans xs ys zs p q = (p.0 ++ q.0, sym (append_assoc xs p.0 q.0) ∙ (ap (λ w. w ++ q.0) p.1 ∙ q.1))

begins_on : (p : ProcState) (v w : Known Entry About) → Begins p v → IsPrefix v.seen w.seen → Begins p w
begins_on p v w b on = record { seen = trans p.known.seen v.seen w.seen b.seen on; own = b.own }

pub begins_own : (p : ProcState) → Holds p → Begins p p.known
begins_own p h = record { seen = ([], append-nil p.known.seen); own = h.own }

pub joined_start : (lock : _) (first : ProcState) (rest : List ProcState) → Owns lock first rest → Holds first → Joined first rest (length rest) first.known
joined_start lock first rest owns holds = record {
  pid = owns.pid;
  live = owns.live;
  about = refl;
  mine = refl;
  first_begins = begins_own first holds;
  ended = λ k d from to. absurd (omega arith);
  begins = λ k d from to. absurd (omega arith);
  none = λ p out. ap (ended_of p) holds.apart;
}

not_here : (rest : List ProcState) (n p : ℕ) → n < length rest → (p < 2) ⊎ (length rest + 1 < p) → n + 2 ≡ p → ⊥
not_here rest n p inside out is = elim out [ inl low ↦ omega arith | inr high ↦ omega arith ]

pub joined_more : (first : ProcState) (rest : List ProcState) (n m : ℕ) (v : Known Entry About) (last : ProcState) → m ≡ n + 1 → n < length rest → Joined first rest m v → Holds last → ((d : ProcState) → get_or rest n d ≡ last)
    → last.known.pid ≡ n + 2 → IsPrefix v.seen (joining v last.known).seen → IsPrefix last.known.seen (joining v last.known).seen → Joined first rest n (joining v last.known)
joined_more first rest n m v last up inside old holds here pid_is begin_left begin_right =
    let w : Known Entry About = last.known in
    let after : Known Entry About = joining v w in
    record {
      pid = old.pid;
      live = (let l : v.live ≡ m + 1 = old.live in omega arith);
      about = old.about;
      mine = old.mine;
      first_begins = begins_on first v after old.first_begins begin_left;
      ended = λ k d from to. dite (ℕ_discrete k n)
          (λ is. rw (eq-eqb w.pid (k + 2) (pid_is ∙ ap (λ (j : ℕ). j + 2) (sym is))) (sym (ap (λ (s : ProcState). s.known.mine) (ap (λ (j : ℕ). get_or rest j d) is ∙ here d))))
          (λ ne. rw (ne_eqb w.pid (k + 2) (λ e. ne (omega arith))) (old.ended k d (omega arith) to));
      begins = λ k d from to. dite (ℕ_discrete k n)
          (λ is. subst (λ s. Begins s after) (sym (ap (λ (j : ℕ). get_or rest j d) is ∙ here d)) (record { seen = begin_right; own = holds.own }))
          (λ ne. begins_on (get_or rest k d) v after (old.begins k d (omega arith) to) begin_left);
      none = λ p out. rw (ne_eqb w.pid p (λ e. not_here rest n p inside out (sym pid_is ∙ e))) (old.none p out);
    }
