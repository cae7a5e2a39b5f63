-- Lists, as they are read one value after another.
use Rattle.std.proofs.Common.{◌≡◌, ℕ, suc, ◌+◌, ◌-◌, ◌<◌, Bool, true, false, cond, List, [], ◌∷◌, ◌++◌, length, refl, sym, subst, ap, ◌∙◌, append_assoc, append-nil, arith}
use Rattle.std.specs.Prelude.{◌&&◌, ◌||◌}
use Rattle.std.specs.List.{AllByRecursion}
use Rattle.std.proofs.lemmas.List.{length-append}
use Rattle.std.proofs.lemmas.Bool.{both_ways}
use Rattle.dump_model.specs.Words.{no_break}
use Rattle.dump_read.specs.Taken.{IsPiece, is_front, Apart, AllApart, State, Took, Reads, shut}
use Rattle.dump_read.specs.Settled.{is_among, IsNext}
use Rattle.dump_read.specs.Sequences.{opens_after, list_text, list_opens, AllIn, CountIn, StarSoFar, CountSoFar, reader_size}
use Rattle.dump_model.proofs.WordLaws.{no_break-append}
use Rattle.dump_read.proofs.Fronts.{is-front, front-is}
use Rattle.dump_read.proofs.After.{reads-after}
use Rattle.dump_read.proofs.Forms.{IsCode, code-form, same-pieces}
use Rattle.dump_read.proofs.Lists.{IsElement, star-form, star-ends, star-goes, count-ends, count-goes, after-text}

add-zero : (k : ℕ) → k + 0 ≡ k
add-zero k = omega arith

module _ {X : Type 0} (text : ℕ × X → List ℕ) (InRange : X → Type 0) (opens : X → List (List ℕ)) (first : List ℕ) (element : IsElement text InRange opens first) where
  Rest : ℕ → List X → State → State → Type 0
  Rest k xs old new = Reads (list_text text k) (AllIn InRange) (list_opens (first ∷ []) opens) xs old new

  pub star-begins : (k : ℕ) (s : State) → StarSoFar text InRange opens first k [] s s
  star-begins k s = λ ys fin h. subst (λ n. Reads (list_text text n) (AllIn InRange) (list_opens (first ∷ []) opens) ys s fin) (add-zero k) h

  pub star-steps : (k : ℕ) (items : List X) (x : X) (start here next new : State) → StarSoFar text InRange opens first k items start here → IsNext first true here next
      → Reads (λ y. text (k + length items, y)) InRange opens x next new → StarSoFar text InRange opens first k (items ++ x ∷ []) start new
  star-steps k items x start here next new far is reads = λ ys fin h.
      let at : k + length (items ++ x ∷ []) ≡ (k + length items) + 1 = omega (arith, length-append items (x ∷ [])) in
      let front = is-front first here.left is.2 in
      let here-reads : Reads (λ y. text (k + length items, y)) InRange opens x here new =
      subst (λ s. Reads (λ y. text (k + length items, y)) InRange opens x s new) is.0 reads in
      let rest = star-goes text InRange opens first element (k + length items) x ys here new fin front here-reads
      (subst (λ n. Reads (list_text text n) (AllIn InRange) (list_opens (first ∷ []) opens) ys new fin) at h) in
      subst (λ zs. Reads (list_text text k) (AllIn InRange) (list_opens (first ∷ []) opens) zs start fin) (sym (append_assoc items (x ∷ []) ys)) (far (x ∷ ys) fin rest)

  pub star-done : (k : ℕ) (items : List X) (start here new : State) → StarSoFar text InRange opens first k items start here → IsNext first false here new
      → Reads (list_text text k) (AllIn InRange) (list_opens (first ∷ []) opens) items start new
  star-done k items start here new far is =
      subst (λ zs. Reads (list_text text k) (AllIn InRange) (list_opens (first ∷ []) opens) zs start new) (append-nil items)
      (far [] new (by here.left here.begun here.stopped is))
    where
      by : (left : List ℕ) (begun stopped : Bool) → let here : State = record { left = left; begun = begun; stopped = stopped } in
          IsNext first false here new → Reads (list_text text (k + length items)) (AllIn InRange) (list_opens (first ∷ []) opens) [] here new
      by left begun true is = is
      by left begun false is =
          let here : State = record { left = left; begun = begun; stopped = false } in
          let next : State = record { left = left; begun = begun || is_front left first; stopped = false } in
          subst (λ s. Reads (list_text text (k + length items)) (AllIn InRange) (list_opens (first ∷ []) opens) [] here s) (sym is.0)
          (star-ends text InRange opens first element (k + length items) here next refl (apart left is.1) refl)
        where
          apart : (left : List ℕ) → is_front first left ≡ false → Apart left first
          apart left other rest e = both_ways (is_front first left) other (subst (λ xs. is_front first xs ≡ true) (sym e) (front-is first rest))

  -- each value makes what is left shorter, or is the last one
  pub star-smaller : (k : ℕ) (x : X) (here next new : State) → IsNext first true here next → Reads (λ y. text (k, y)) InRange opens x next new → reader_size new < reader_size here
  star-smaller k x here next new is reads =
      by here.left here.begun here.stopped new.left new.begun new.stopped is.1 (subst (λ s. Reads (λ y. text (k, y)) InRange opens x s new) is.0 reads)
    where
      by : (left : List ℕ) (begun stopped : Bool) (more : List ℕ) (other halted : Bool) → stopped ≡ false
          → Reads (λ y. text (k, y)) InRange opens x (record { left = left; begun = begun; stopped = stopped }) (record { left = more; begun = other; stopped = halted })
          → cond halted 0 (suc (length more)) < cond stopped 0 (suc (length left))
      by left begun true more other halted wrong reads = absurd cc
      by left begun false more other true going reads = omega arith
      by left begun false more other false going took =
          let front = element.front k x took.range in
          omega (arith, ap length took.is, length-append (text (k, x)) more, ap length front.1, length-append first front.0, some element.piece)
        where
          some : IsPiece first → 0 < length first
          some p = omega (arith, ap length p.is, length-append p.word (p.after ∷ []))

  pub count-begins : (n k : ℕ) (s : State) → CountSoFar text InRange opens n k [] s s
  count-begins n k s = λ ys fin h. subst (λ m. Reads (list_text text m) (CountIn InRange n) (list_opens [] opens) ys s fin) (add-zero k)
      (subst (λ m. Reads (list_text text (k + 0)) (CountIn InRange m) (list_opens [] opens) ys s fin) (less n) h)
    where
      less : (n : ℕ) → n - 0 ≡ n
      less n = omega arith

  pub count-steps : (n k : ℕ) (items : List X) (x : X) (start here new : State) → length items < n → CountSoFar text InRange opens n k items start here
      → Reads (λ y. text (k + length items, y)) InRange opens x here new → CountSoFar text InRange opens n k (items ++ x ∷ []) start new
  count-steps n k items x start here new lt far reads = λ ys fin h.
      let one = length-append items (x ∷ []) in
      let at : k + length (items ++ x ∷ []) ≡ (k + length items) + 1 = omega (arith, one) in
      let less : n - length items ≡ (n - length (items ++ x ∷ [])) + 1 = omega (arith, one, lt) in
      let rest = count-goes text InRange opens first element (n - length items) (n - length (items ++ x ∷ [])) (k + length items) x ys here new fin less reads
      (subst (λ m. Reads (list_text text m) (CountIn InRange (n - length (items ++ x ∷ []))) (list_opens [] opens) ys new fin) at h) in
      subst (λ zs. Reads (list_text text k) (CountIn InRange n) (list_opens [] opens) zs start fin) (sym (append_assoc items (x ∷ []) ys)) (far (x ∷ ys) fin rest)

  pub count-done : (n k : ℕ) (items : List X) (start here : State) → length items ≡ n → CountSoFar text InRange opens n k items start here
      → Reads (list_text text k) (CountIn InRange n) (list_opens [] opens) items start here
  count-done n k items start here all far =
      subst (λ zs. Reads (list_text text k) (CountIn InRange n) (list_opens [] opens) zs start here) (append-nil items) (far [] here (by here.left here.begun here.stopped))
    where
      none : n - length items ≡ 0
      none = omega (arith, all)

      by : (left : List ℕ) (begun stopped : Bool) → let here : State = record { left = left; begun = begun; stopped = stopped } in
          Reads (list_text text (k + length items)) (CountIn InRange (n - length items)) (list_opens [] opens) [] here here
      by left begun true = refl
      by left begun false =
          let here : State = record { left = left; begun = begun; stopped = false } in
          subst (λ m. Took (list_text text (k + length items)) (CountIn InRange m) (list_opens [] opens) [] here here) (sym none)
          (count-ends text InRange opens first element (k + length items) here)

  pub count-stopped : (n k : ℕ) (items : List X) (start here : State) → here.stopped ≡ true → CountSoFar text InRange opens n k items start here
      → Reads (list_text text k) (CountIn InRange n) (list_opens [] opens) items start here
  count-stopped n k items start here halted far =
      subst (λ zs. Reads (list_text text k) (CountIn InRange n) (list_opens [] opens) zs start here) (append-nil items) (far [] here (by here.left here.begun here.stopped halted))
    where
      by : (left : List ℕ) (begun stopped : Bool) → stopped ≡ true → let here : State = record { left = left; begun = begun; stopped = stopped } in
          Reads (list_text text (k + length items)) (CountIn InRange (n - length items)) (list_opens [] opens) [] here here
      by left begun true halts = refl
      by left begun false halts = absurd cc

  -- ---- a list, and something else after it

  module _ {B : Type 0} (tb : B → List ℕ) (ib : B → Type 0) (code : IsCode tb ib) (k : ℕ)
      (apart : (xs : List X) (b : B) (s : List ℕ) → AllIn InRange xs → ib b → AllApart (list_opens (first ∷ []) opens xs) (tb b ++ s)) where
    abbrev both-of : List X → B → List X × B
    both-of xs b = (xs, b)

    pub code-list : IsCode {A = List X × B} (λ p. list_text text k p.0 ++ tb p.1) (λ p. AllIn InRange p.0 × ib p.1)
    code-list = record {
      some = ([], code.some);
      inside = (tt, code.inside);
      one = λ p q r s hp hq is.
          let fronts = (star-form text InRange opens first element k).one p.0 q.0 (tb p.1 ++ r) (tb q.1 ++ s) hp.0 hq.0 (apart p.0 p.1 r hp.0 hp.1) (apart q.0 q.1 s hq.0 hq.1)
          (sym (append_assoc (list_text text k p.0) (tb p.1) r) ∙ is ∙ append_assoc (list_text text k q.0) (tb q.1) s) in
          let others = code.one p.1 q.1 r s hp.1 hq.1 fronts.1 in
          (ap (λ (xs : List X). both-of xs p.1) fronts.0 ∙ ap (both-of q.0) others.0, others.1);
      ended = λ p hp. no_break-append (list_text text k p.0) (tb p.1) ∙ ap (λ t. no_break (list_text text k p.0) && t) (code.ended p.1 hp.1) ∙ by (no_break (list_text text k p.0));
    }
      where
        by : (a : Bool) → a && false ≡ false
        by true = refl
        by false = refl

    pub list-reads : (xs : List X) (b : B) (old mid new : State) → Reads (list_text text k) (AllIn InRange) (list_opens (first ∷ []) opens) xs old mid → Reads tb ib shut b mid new
        → Reads {A = List X × B} (λ p. list_text text k p.0 ++ tb p.1) (λ p. AllIn InRange p.0 × ib p.1) shut (xs, b) old new
    list-reads xs b old mid new one other =
        reads-after (list_text text k) (AllIn InRange) (list_opens (first ∷ []) opens) tb ib shut (λ (p : List X × B). list_text text k p.0 ++ tb p.1)
        (λ p. AllIn InRange p.0 × ib p.1) shut xs b (both-of xs) old mid new (star-form text InRange opens first element k) (code-form tb ib code).broken
        (record {
          into = λ c hx hc. (hx, hc);
          text = λ c _ _. refl;
          opens = λ c _ hc. sym (ap (λ t. opens_after t (list_opens (first ∷ []) opens xs) []) (code.ended c hc) ∙ after-text (list_opens (first ∷ []) opens xs) []);
          back = λ p r s hx hp ra _ is.
              let same = (star-form text InRange opens first element k).one xs p.0 r (tb p.1 ++ s) hx hp.0 ra (apart p.0 p.1 s hp.0 hp.1)
              (is ∙ append_assoc (list_text text k p.0) (tb p.1) s) in
              (p.1, hp.1, ap (λ (ys : List X). both-of ys p.1) (sym same.0));
          starts = λ ys h. ((ys, code.some), tb code.some, (h, code.inside), refl);
          begins = λ p u x r s hp _ _ is. (p.0, tb p.1 ++ s, hp.0, apart p.0 p.1 s hp.0 hp.1, append_assoc (list_text text k p.0) (tb p.1) s);
        })
        one other

-- ---- which pieces go on

-- texts that begin with another piece than those that go on
pub other-apart : (known pieces : List (List ℕ)) (piece z : List ℕ) → AllByRecursion IsPiece pieces → AllByRecursion (λ v. is_among v known ≡ true) pieces → IsPiece piece
    → is_among piece known ≡ false → AllApart pieces (piece ++ z)
other-apart known [] piece z ps all p other = tt
other-apart known (q ∷ pieces) piece z ps all p other = (
  λ rest is. both_ways (is_among piece known) other (subst (λ v. is_among v known ≡ true) (sym (same-pieces piece q z rest p ps.0 is).0) all.0),
  other-apart known pieces piece z ps.1 all.1 p other,
)

pub opens-among : {X : Type 0} (known more : List (List ℕ)) (opens : X → List (List ℕ)) (InRange : X → Type 0)
    → ((x : X) → InRange x → AllByRecursion (λ v. is_among v known ≡ true) (opens x)) → AllByRecursion (λ v. is_among v known ≡ true) more
    → (xs : List X) → AllIn InRange xs → AllByRecursion (λ v. is_among v known ≡ true) (list_opens more opens xs)
opens-among known more opens InRange each m [] h = m
opens-among known more opens InRange each m (x ∷ []) h = by (opens x) (each x h.0)
  where
    join : (ps : List (List ℕ)) → AllByRecursion (λ v. is_among v known ≡ true) ps → AllByRecursion (λ v. is_among v known ≡ true) (ps ++ more)
    join [] h = m
    join (p ∷ ps) h = (h.0, join ps h.1)

    by : (ps : List (List ℕ)) → AllByRecursion (λ v. is_among v known ≡ true) ps → AllByRecursion (λ v. is_among v known ≡ true) (opens_after true ps more)
    by [] h = m
    by (p ∷ ps) h = join (p ∷ ps) h
opens-among known more opens InRange each m (x ∷ y ∷ xs) h = opens-among known more opens InRange each m (y ∷ xs) h.1
