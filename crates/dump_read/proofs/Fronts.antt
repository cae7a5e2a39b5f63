-- What stands in front of bytes, and in front of their first line.
use Rattle.std.proofs.Common.{◌≡◌, ℕ, Bool, true, false, cond, List, [], ◌∷◌, ◌++◌, refl, sym, subst, ap, ◌∙◌, arith, inl, inr, append_assoc, append-nil, ◌⊎◌}
use Rattle.std.specs.Prelude.{◌&&◌, ◌||◌, ◌==◌}
use Rattle.std.proofs.lemmas.Bool.Decides.{nat_tests}
use Rattle.std.specs.List.{AllByRecursion}
use Rattle.std.proofs.lemmas.Bool.{both_ways, or_cases, and_from, and_parts, eq-eqb, eqb-true}
use Rattle.dump_model.specs.Words.{is_in_word, no_break, IsWord, IsAfter}
use Rattle.dump_model.proofs.WordLaws.{same-head, no_break-append}
use Rattle.dump_read.specs.Taken.{IsPiece, line_left, is_front, Apart, AllApart, is_begun}

pub append-same : (xs r s : List ℕ) → xs ++ r ≡ xs ++ s → r ≡ s
append-same [] r s h = h
append-same (x ∷ xs) r s h = append-same xs r s (same-head x x (xs ++ r) (xs ++ s) h).1

pub is-front : (front bytes : List ℕ) → is_front front bytes ≡ true → (rest : List ℕ) × (bytes ≡ front ++ rest)
is-front [] bytes h = (bytes, refl)
is-front (f ∷ front) [] h = absurd cc
is-front (f ∷ front) (b ∷ bytes) h =
    let parts = and_parts (f == b) (is_front front bytes) h in
    let more = is-front front bytes parts.1 in
    (more.0, ap (λ c. c ∷ bytes) (sym (eqb-true f b parts.0)) ∙ ap (λ xs. f ∷ xs) more.1)

pub front-is : (front rest : List ℕ) → is_front front (front ++ rest) ≡ true
front-is [] rest = refl
front-is (f ∷ front) rest = and_from (f == f) (is_front front (front ++ rest)) (eq-eqb f f refl) (front-is front rest)

-- ---- the first line

-- a word goes on in the line
pub line-word : (b : ℕ) (bytes : List ℕ) → is_in_word b ≡ true → line_left (b ∷ bytes) ≡ b ∷ line_left bytes
line-word b bytes h =
    let no : (b == 10) ≡ false = grind (arith, nat_tests) in
    ap (λ t. b ∷ cond t [] (line_left bytes)) no

-- the line of more bytes begins the bytes and the line after them
pub line-begins : (u x : List ℕ) → (rest : List ℕ) × (u ++ line_left x ≡ line_left (u ++ x) ++ rest)
line-begins [] x = ([], sym (append-nil (line_left x)))
line-begins (b ∷ u) x = by (b == 10) (line-begins u x)
  where
    by : (t : Bool) → (rest : List ℕ) × (u ++ line_left x ≡ line_left (u ++ x) ++ rest)
        → (rest : List ℕ) × (b ∷ (u ++ line_left x) ≡ (b ∷ cond t [] (line_left (u ++ x))) ++ rest)
    by true more = (u ++ line_left x, refl)
    by false more = (more.0, ap (λ xs. b ∷ xs) more.1)

pub whole-line : (x : List ℕ) → (rest : List ℕ) × (x ≡ line_left x ++ rest)
whole-line x =
    let more = line-begins x [] in
    (more.0, sym (append-nil x) ∙ more.1 ∙ ap (λ xs. line_left xs ++ more.0) (append-nil x))

-- a piece stands in front, or all of the bytes begin it, or no text with the first line does
pub data Meets (bytes piece : List ℕ) : Type 0 where
  Next : (rest : List ℕ) → bytes ≡ piece ++ rest → Meets bytes piece
  Part : (b : ℕ) (rest : List ℕ) → piece ≡ bytes ++ b ∷ rest → IsWord bytes → Meets bytes piece
  Never : ((r s : List ℕ) → line_left bytes ++ r ≡ piece ++ s → ⊥) → Meets bytes piece

meets-word : (bytes word : List ℕ) (after : ℕ) → IsWord word → IsAfter after → Meets bytes (word ++ after ∷ [])
meets-word [] [] after h ends = Part after [] refl refl
meets-word [] (w ∷ word) after h ends = Part w (word ++ after ∷ []) refl refl
meets-word (b ∷ bytes) [] after h ends = by (b == after) refl
  where
    by : (t : Bool) → (b == after) ≡ t → Meets (b ∷ bytes) (after ∷ [])
    by true is = Next bytes (ap (λ c. c ∷ bytes) (eqb-true b after is))
    by false is = Never (λ r s e. both_ways (b == after) is (subst (λ c. (b == c) ≡ true) (same-head b after _ s e).0 (eq-eqb b b refl)))
meets-word (b ∷ bytes) (w ∷ word) after h ends =
    let parts = and_parts (is_in_word w) (no_break word) h in by parts.0 (b == w) refl (meets-word bytes word after parts.1 ends)
  where
    by : is_in_word w ≡ true → (t : Bool) → (b == w) ≡ t → Meets bytes (word ++ after ∷ []) → Meets (b ∷ bytes) (w ∷ (word ++ after ∷ []))
    by inside true is (Next rest e) = Next rest (ap (λ c. c ∷ bytes) (eqb-true b w is) ∙ ap (λ xs. w ∷ xs) e)
    by inside true is (Part c rest e word-in) =
        Part c rest (ap (λ d. d ∷ (word ++ after ∷ [])) (sym (eqb-true b w is)) ∙ ap (λ xs. b ∷ xs) e)
        (and_from (is_in_word b) (no_break bytes) (subst (λ c. is_in_word c ≡ true) (sym (eqb-true b w is)) inside) word-in)
    by inside true is (Never none) = Never (λ r s e.
        let in-b : is_in_word b ≡ true = subst (λ c. is_in_word c ≡ true) (sym (eqb-true b w is)) inside in
        let line : line_left (b ∷ bytes) ++ r ≡ b ∷ (line_left bytes ++ r) = ap (λ xs. xs ++ r) (line-word b bytes in-b) in
        none r s (same-head b w (line_left bytes ++ r) ((word ++ after ∷ []) ++ s) (sym line ∙ e)).1)
    by inside false is more = Never (λ r s e. both_ways (b == w) is (subst (λ c. (b == c) ≡ true) (same-head b w _ _ e).0 (eq-eqb b b refl)))

pub meets : (bytes piece : List ℕ) → IsPiece piece → Meets bytes piece
meets bytes piece p = subst (Meets bytes) (sym p.is) (meets-word bytes p.word p.after p.inside p.ends)

-- what is left after a part is taken, of bytes with which a piece does not stand in front
pub stays-apart : (piece used new r : List ℕ) → IsPiece piece → Apart (used ++ new) piece → is_front (used ++ new) piece && no_break used ≡ false
    → Apart (used ++ (line_left new ++ r)) piece
stays-apart piece used new r p apart flag s is = by (meets (used ++ new) piece p)
  where
    by : Meets (used ++ new) piece → ⊥
    by (Next rest e) = apart rest e
    by (Part b rest e word) =
        let begun : is_front (used ++ new) piece ≡ true = subst (λ q. is_front (used ++ new) q ≡ true) (sym e) (front-is (used ++ new) (b ∷ rest)) in
        let whole : no_break used ≡ true = (and_parts (no_break used) (no_break new) (sym (no_break-append used new) ∙ word)).0 in
        both_ways (is_front (used ++ new) piece && no_break used) flag (and_from (is_front (used ++ new) piece) (no_break used) begun whole)
    by (Never none) =
        let more = line-begins used new in
        none (more.0 ++ r) s
        (sym (append_assoc (line_left (used ++ new)) more.0 r) ∙ ap (λ xs. xs ++ r) (sym more.1) ∙ append_assoc used (line_left new) r ∙ is)

pub all-apart : (pieces : List (List ℕ)) (used new r : List ℕ) → AllByRecursion IsPiece pieces → AllApart pieces (used ++ new)
    → is_begun pieces (used ++ new) && no_break used ≡ false → AllApart pieces (used ++ (line_left new ++ r))
all-apart [] used new r ps apart flag = tt
all-apart (piece ∷ pieces) used new r ps apart flag =
    let flags = by (is_front (used ++ new) piece) (is_begun pieces (used ++ new)) (no_break used) flag in
    (stays-apart piece used new r ps.0 apart.0 flags.0, all-apart pieces used new r ps.1 apart.1 flags.1)
  where
    by : (a b c : Bool) → (a || b) && c ≡ false → (a && c ≡ false) × (b && c ≡ false)
    by true b true h = absurd cc
    by true true false h = (refl, refl)
    by true false false h = (refl, refl)
    by false b c h = (refl, h)

-- all of the bytes begin one of the pieces
pub begun-part : (pieces : List (List ℕ)) (bytes : List ℕ) (P : List ℕ → Type 0) → AllByRecursion IsPiece pieces → AllApart pieces bytes → AllByRecursion P pieces
    → is_begun pieces bytes ≡ true → (b : ℕ) × (rest : List ℕ) × IsWord bytes × P (bytes ++ b ∷ rest)
begun-part [] bytes P ps apart each h = absurd cc
begun-part (piece ∷ pieces) bytes P ps apart each h =
    by (begun-part pieces bytes P ps.1 apart.1 each.1) (or_cases (is_front bytes piece) (is_begun pieces bytes) h)
  where
    at-piece : is_front bytes piece ≡ true → Meets bytes piece → (b : ℕ) × (rest : List ℕ) × IsWord bytes × P (bytes ++ b ∷ rest)
    at-piece front (Next rest e) = absurd (apart.0 rest e)
    at-piece front (Part b rest e word) = (b, rest, word, subst P e each.0)
    at-piece front (Never none) =
        let more = is-front bytes piece front in
        let line = whole-line bytes in
        absurd (none (line.0 ++ more.0) []
        (sym (append_assoc (line_left bytes) line.0 more.0) ∙ ap (λ xs. xs ++ more.0) (sym line.1) ∙ sym more.1 ∙ sym (append-nil piece)))

    by : (is_begun pieces bytes ≡ true → (b : ℕ) × (rest : List ℕ) × IsWord bytes × P (bytes ++ b ∷ rest))
        → (is_front bytes piece ≡ true) ⊎ (is_begun pieces bytes ≡ true) → (b : ℕ) × (rest : List ℕ) × IsWord bytes × P (bytes ++ b ∷ rest)
    by more (inl front) = at-piece front (meets bytes piece ps.0)
    by more (inr others) = more others
