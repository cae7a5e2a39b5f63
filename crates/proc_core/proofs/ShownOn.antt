-- The residences of a process stand as they were shown while others go on.
use Rattle.proc_core.proofs.Words.{◌++◌, ◌==◌, [], after_entry, Alike, AllByRecursion, append-nil, append_assoc, AreReached, AreShown, BasesAreAlike, EachFollows, Eager, Entry, Failing, false, Held, is_among, Legal, Library, List}
use Rattle.proc_core.proofs.Words.{OneMoreIsAfter, OthersLeaveAlike, pids, PrefixIsLegal, reached_alike, ResidenceFor, shown_alike_by, state_after, subst, sym, true, ℕ, ◌∷◌, ◌≡◌}

-- the laws that this rests on
pub record Laws : Type 0 where
  pub shrinks : PrefixIsLegal
  pub follows : EachFollows
  pub after : OneMoreIsAfter
  pub alike : OthersLeaveAlike
  pub bases : BasesAreAlike

pub shown_on : Laws → (lib : Library) (failing : Failing) (contents : Held) (pid : ℕ) (rs : List ResidenceFor) (more : List Entry) (h : List Entry) → is_among pids pid ≡ true → Legal lib failing contents (h ++ more) →
    AllByRecursion (λ (x : Entry). (pid == x.pid) ≡ false) more → AreReached lib (state_after lib failing h) pid rs → AreShown lib (state_after lib failing h) rs → AreShown lib (state_after lib failing (h ++ more)) rs
shown_on laws lib failing contents pid rs [] h there legal others reached shown = subst (λ k. AreShown lib (state_after lib failing k) rs) (sym (append-nil h)) shown
shown_on laws lib failing contents pid rs (x ∷ more) h there legal others reached shown =
    let joined : (h ++ x ∷ []) ++ more ≡ h ++ x ∷ more = append_assoc h (x ∷ []) more in
    let e : Eager = state_after lib failing h in
    let beyond : Eager = after_entry lib e x in
    let is : state_after lib failing (h ++ x ∷ []) ≡ beyond = laws.after lib failing h x in
    let alike : Alike lib e beyond pid = laws.alike lib failing contents h x pid (laws.shrinks lib failing contents h (x ∷ more) legal) (laws.follows lib failing contents h x more legal) there others.0 in
    subst (λ k. AreShown lib (state_after lib failing k) rs) joined
    (shown_on laws lib failing contents pid rs more (h ++ x ∷ []) there (subst (Legal lib failing contents) (sym joined) legal) others.1
    (subst (λ a. AreReached lib a pid rs) (sym is) (reached_alike lib e beyond pid rs alike reached))
    (subst (λ a. AreShown lib a rs) (sym is) (shown_alike_by laws.bases lib e beyond pid rs alike reached shown)))
