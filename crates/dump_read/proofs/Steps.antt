-- What a reader takes at one step.
use Rattle.std.proofs.Common.{◌≡◌, ℕ, zero, suc, ◌+◌, ◌<◌, ◌≤◌, Bool, true, false, cond, not, List, [], ◌∷◌, ◌++◌, length, take, drop, get_or, Option, Some, None, refl, sym, subst, ap, ◌∙◌, append_assoc, append-nil, arith, inl, inr, ◌⊎◌}
use Rattle.std.specs.Prelude.{◌&&◌, ◌||◌, ◌==◌, is_some, unwrap_or, eqb}
use Rattle.std.specs.List.{prefix_len, AllByRecursion}
use Rattle.std.specs.Cmp.Lexicographic.{pointwise}
use Rattle.std.specs.Bool.{then_some}
use Rattle.std.proofs.lemmas.Bool.{both_ways, or_parts, or_cases, and_from, and_parts, not-true, eq-eqb, eqb-true}
use Rattle.dump_model.specs.Words.{is_in_word, no_break, IsWord, IsAfter, Tells, Begins}
use Rattle.dump_read.specs.Taken.{IsPiece, line_left, is_front, same_bytes, Apart, is_begun, State, Took, Stops, Outcome, Reads, shut, Takes}
use Rattle.dump_read.specs.Settled.{TakesOne, piece_at, ended_by, front_word, goes, stops, settled, taken, taken_one, is_piece, is_among, are_pieces, IsPlace}
use Rattle.dump_model.proofs.WordLaws.{same-head, IsWords}
use Rattle.dump_read.proofs.Fronts.{is-front, front-is, line-word, whole-line, Meets, Next, Part, Never, meets}
use Rattle.dump_read.proofs.Forms.{same-words, piece-broken, piece-of}
use Rattle.dump_read.proofs.Lists.{line-piece-word}

-- ---- lists of bytes

drop-front : (front rest : List ℕ) → drop (length front) (front ++ rest) ≡ rest
drop-front [] rest = refl
drop-front (f ∷ front) rest = drop-front front rest

front-apart : (front bytes : List ℕ) → is_front front bytes ≡ false → Apart bytes front
front-apart front bytes h rest is = both_ways (is_front front bytes) h (subst (λ xs. is_front front xs ≡ true) (sym is) (front-is front rest))

pub front-short : (front bytes : List ℕ) → is_front front bytes ≡ true → length front ≤ length bytes
front-short [] bytes h = omega arith
front-short (f ∷ front) [] h = absurd cc
front-short (f ∷ front) (b ∷ bytes) h = omega (arith, front-short front bytes (and_parts (f == b) (is_front front bytes) h).1)

pub front-pointwise : (front bytes : List ℕ) → pointwise eqb front (take (length front) bytes) ≡ is_front front bytes
front-pointwise [] bytes = refl
front-pointwise (f ∷ front) [] = refl
front-pointwise (f ∷ front) (b ∷ bytes) = ap (λ t. (f == b) && t) (front-pointwise front bytes)

-- ---- a text as it stands

pub piece-test : (piece : List ℕ) → is_piece piece ≡ true → IsPiece piece
piece-test [] h = absurd cc
piece-test (b ∷ []) h = record { word = []; after = b; inside = refl; ends = not-true (is_in_word b) h; is = refl }
piece-test (b ∷ c ∷ bytes) h =
    let parts = and_parts (is_in_word b) (is_piece (c ∷ bytes)) h in
    let p = piece-test (c ∷ bytes) parts.1 in
    record { word = b ∷ p.word; after = p.after; inside = and_from (is_in_word b) (no_break p.word) parts.0 p.inside; ends = p.ends; is = ap (λ xs. b ∷ xs) p.is }

-- a piece that does not stand in front, and with which the first line does not begin
never-there : (piece left r s : List ℕ) → IsPiece piece → is_front piece left ≡ false → is_front left piece ≡ false → line_left left ++ r ≡ piece ++ s → ⊥
never-there piece left r s p h k is = by (meets left piece p)
  where
    by : Meets left piece → ⊥
    by (Next rest e) = front-apart piece left h rest e
    by (Part b rest e word) = front-apart left piece k (b ∷ rest) e
    by (Never none) = none r s is

or-false : (a : Bool) → a ≡ (a && true) || false
or-false true = refl
or-false false = refl

or-own : (a b : Bool) → a || b ≡ (a && true) || b
or-own true b = refl
or-own false b = refl

ends-false : (a b : Bool) → b ≡ false → false ≡ (a && b) || false
ends-false true b h = sym (ap (λ t. t || false) h)
ends-false false b h = refl

taken-step : (piece : List ℕ) → IsPiece piece → (left : List ℕ) (begun front : Bool) → is_front piece left ≡ front
    → let old : State = record { left = left; begun = begun; stopped = false } in
    let new : State = cond front (goes (length piece) old) (stops (begun || is_front left piece) old) in
    Outcome {A = Unit {0}} false new.stopped (λ _. piece) (λ _. Unit {0}) shut tt old new
taken-step piece p left begun true h =
    let more = is-front piece left h in
    record {
      range = tt;
      is = more.1 ∙ ap (λ xs. piece ++ xs) (sym (ap (λ xs. drop (length piece) xs) more.1 ∙ drop-front piece more.0));
      closed = tt;
      flag = ends-false begun (no_break piece) (piece-broken piece p);
    }
taken-step piece p left begun false h = record {
  used = [];
  is = refl;
  viable = (tt, piece, tt, refl);
  own = is_front left piece;
  flag = or-own begun (is_front left piece);
  begun = λ own. by own (meets left piece p);
  other = λ own a r s _ _ is. never-there piece left r s p h own is;
}
  where
    by : is_front left piece ≡ true → Meets left piece → (a : Unit {0}) × (b : ℕ) × (rest : List ℕ) × Unit {0} × IsWord left × (piece ≡ left ++ b ∷ rest)
    by own (Next rest e) = absurd (front-apart piece left h rest e)
    by own (Part b rest e word) = (tt, b, rest, tt, word, e)
    by own (Never none) =
        let line = whole-line left in
        let more = is-front left piece own in
        absurd (none (line.0 ++ more.0) []
        (sym (append_assoc (line_left left) line.0 more.0) ∙ ap (λ xs. xs ++ more.0) (sym line.1) ∙ sym more.1 ∙ sym (append-nil piece)))

pub taken-reads : (piece : List ℕ) → IsPiece piece → (old : State) → Takes piece old (taken piece old)
taken-reads piece p old = by old.left old.begun old.stopped
  where
    by : (left : List ℕ) (begun stopped : Bool)
        → let s : State = record { left = left; begun = begun; stopped = stopped } in Takes piece s (taken piece s)
    by left begun true = refl
    by left begun false = taken-step piece p left begun (is_front piece left) refl

-- ---- one of some pieces

same-self : (p : List ℕ) → same_bytes p p ≡ true
same-self [] = refl
same-self (b ∷ p) = and_from (b == b) (same_bytes p p) (eq-eqb b b refl) (same-self p)

among-at : (p : List ℕ) (pieces : List (List ℕ)) (k : ℕ) → k < length pieces → p ≡ piece_at pieces k → is_among p pieces ≡ true
among-at p [] k lt is = absurd (omega arith)
among-at p (q ∷ pieces) zero lt is = ap (λ t. t || is_among p pieces) (ap (λ xs. same_bytes p xs) (sym is) ∙ same-self p)
among-at p (q ∷ pieces) (suc k) lt is = ap (λ t. same_bytes p q || t) (among-at p pieces k (omega arith) is) ∙ by (same_bytes p q)
  where
    by : (a : Bool) → a || true ≡ true
    by true = refl
    by false = refl

pub record ArePieces (pieces : List (List ℕ)) : Type 0 where
  pub all : AllByRecursion IsPiece pieces
  pub distinct : (j k : ℕ) → j < length pieces → k < length pieces → piece_at pieces j ≡ piece_at pieces k → j ≡ k
  pub any : 0 < length pieces

pub pieces-test : (pieces : List (List ℕ)) → are_pieces pieces ≡ true → ArePieces pieces
pieces-test [] h = absurd cc
pieces-test (p ∷ []) h = record { all = (piece-test p h, tt); distinct = λ j k hj hk _. omega (arith, hj, hk); any = omega arith }
pieces-test (p ∷ q ∷ pieces) h =
    let parts = and_parts (is_piece p) (not (is_among p (q ∷ pieces)) && are_pieces (q ∷ pieces)) h in
    let more = and_parts (not (is_among p (q ∷ pieces))) (are_pieces (q ∷ pieces)) parts.1 in
    let others = pieces-test (q ∷ pieces) more.1 in
    let alone = not-true (is_among p (q ∷ pieces)) more.0 in
    record {
      all = (piece-test p parts.0, others.all);
      distinct = distinct p (q ∷ pieces) others alone;
      any = omega arith;
    }
  where
    distinct : (p : List ℕ) (ps : List (List ℕ)) → ArePieces ps → is_among p ps ≡ false → (j k : ℕ) → j < length (p ∷ ps) → k < length (p ∷ ps)
        → piece_at (p ∷ ps) j ≡ piece_at (p ∷ ps) k → j ≡ k
    distinct p ps others alone zero zero hj hk is = refl
    distinct p ps others alone zero (suc k) hj hk is = absurd (both_ways (is_among p ps) alone (among-at p ps k (omega arith) is))
    distinct p ps others alone (suc j) zero hj hk is = absurd (both_ways (is_among p ps) alone (among-at p ps j (omega arith) (sym is)))
    distinct p ps others alone (suc j) (suc k) hj hk is = ap suc (others.distinct j k (omega arith) (omega arith) is)

none-there : (pieces : List (List ℕ)) (left r s : List ℕ) (k : ℕ) → AllByRecursion IsPiece pieces → AllByRecursion (λ p. is_front p left ≡ false) pieces
    → is_begun pieces left ≡ false → k < length pieces → line_left left ++ r ≡ piece_at pieces k ++ s → ⊥
none-there [] left r s k ps fronts begun lt is = omega arith
none-there (p ∷ pieces) left r s zero ps fronts begun lt is =
    never-there p left r s ps.0 fronts.0 (or_parts (is_front left p) (is_begun pieces left) begun).0 is
none-there (p ∷ pieces) left r s (suc k) ps fronts begun lt is =
    none-there pieces left r s k ps.1 fronts.1 (or_parts (is_front left p) (is_begun pieces left) begun).1 (omega arith) is

begun-at : (pieces : List (List ℕ)) (left : List ℕ) → AllByRecursion IsPiece pieces → AllByRecursion (λ p. is_front p left ≡ false) pieces → is_begun pieces left ≡ true
    → (k : ℕ) × (b : ℕ) × (rest : List ℕ) × (k < length pieces) × IsWord left × (piece_at pieces k ≡ left ++ b ∷ rest)
begun-at [] left ps fronts h = absurd cc
begun-at (p ∷ pieces) left ps fronts h = by (begun-at pieces left ps.1 fronts.1) (or_cases (is_front left p) (is_begun pieces left) h)
  where
    at-first : is_front left p ≡ true → Meets left p
        → (k : ℕ) × (b : ℕ) × (rest : List ℕ) × (k < length (p ∷ pieces)) × IsWord left × (piece_at (p ∷ pieces) k ≡ left ++ b ∷ rest)
    at-first own (Next rest e) = absurd (front-apart p left fronts.0 rest e)
    at-first own (Part b rest e word) = (0, b, rest, omega arith, word, e)
    at-first own (Never none) =
        let line = whole-line left in
        let more = is-front left p own in
        absurd (none (line.0 ++ more.0) []
        (sym (append_assoc (line_left left) line.0 more.0) ∙ ap (λ xs. xs ++ more.0) (sym line.1) ∙ sym more.1 ∙ sym (append-nil p)))

    by : (is_begun pieces left ≡ true → (k : ℕ) × (b : ℕ) × (rest : List ℕ) × (k < length pieces) × IsWord left × (piece_at pieces k ≡ left ++ b ∷ rest))
        → (is_front left p ≡ true) ⊎ (is_begun pieces left ≡ true)
        → (k : ℕ) × (b : ℕ) × (rest : List ℕ) × (k < length (p ∷ pieces)) × IsWord left × (piece_at (p ∷ pieces) k ≡ left ++ b ∷ rest)
    by more (inl front) = at-first front (meets left p ps.0)
    by more (inr others) = let m = more others in (suc m.0, m.1, m.2, omega (arith, m.3), m.4, m.5)

taken-one-step : (pieces : List (List ℕ)) → ArePieces pieces → (left : List ℕ) (begun : Bool) (place : Option (ℕ × ℕ)) (k : ℕ) → IsPlace pieces left place
    → ((p : ℕ × ℕ) → place ≡ Some p → k ≡ p.0)
    → let old : State = record { left = left; begun = begun; stopped = false } in TakesOne pieces k old (taken_one pieces place old)
taken-one-step pieces ps left begun (Some p) k there same =
    let is : k ≡ p.0 = same p refl in
    let piece = piece_at pieces p.0 in
    let old : State = record { left = left; begun = begun; stopped = false } in
    let more = is-front piece left there.1 in
    subst (λ i. Took (piece_at pieces) (λ n. n < length pieces) shut i old (goes p.1 old)) (sym is)
    (record {
      range = there.0;
      is = more.1 ∙ ap (λ xs. piece ++ xs) (sym (ap (λ n. drop n left) there.2 ∙ ap (λ xs. drop (length piece) xs) more.1 ∙ drop-front piece more.0));
      closed = tt;
      flag = ends-false begun (no_break piece) (piece-broken piece (piece-of pieces p.0 ps.all there.0));
    })
taken-one-step pieces ps left begun None k there same = record {
  used = [];
  is = refl;
  viable = (0, piece_at pieces 0, ps.any, refl);
  own = is_begun pieces left;
  flag = or-own begun (is_begun pieces left);
  begun = λ own. let at = begun-at pieces left ps.all there own in (at.0, at.1, at.2, at.3, at.4, at.5);
  other = λ own j r s lt _ is. none-there pieces left r s j ps.all there own lt is;
}

pub taken-one-reads : (pieces : List (List ℕ)) → ArePieces pieces → (old : State) (place : Option (ℕ × ℕ)) (k : ℕ) → IsPlace pieces old.left place
    → ((p : ℕ × ℕ) → place ≡ Some p → k ≡ p.0) → TakesOne pieces k old (taken_one pieces place old)
taken-one-reads pieces ps old place k there same = by old.left old.begun old.stopped place there same
  where
    by : (left : List ℕ) (begun stopped : Bool) (place : Option (ℕ × ℕ)) → IsPlace pieces left place → ((p : ℕ × ℕ) → place ≡ Some p → k ≡ p.0)
        → let s : State = record { left = left; begun = begun; stopped = stopped } in TakesOne pieces k s (taken_one pieces place s)
    by left begun true (Some p) there same = refl
    by left begun true None there same = refl
    by left begun false place there same = taken-one-step pieces ps left begun place k there same

-- ---- the word that stands next

-- what stands in front of a byte that is none of a word's
front-parts : (left : List ℕ) → (no_break left ≡ true) × (front_word left ≡ left)
    ⊎ ((b : ℕ) × (rest : List ℕ) × IsAfter b × IsWord (front_word left) × (left ≡ front_word left ++ b ∷ rest))
front-parts [] = inl (refl, refl)
front-parts (b ∷ left) = by (prefix_len is_in_word left) (is_in_word b) refl (front-parts left)
  where
    by : (n : ℕ) (t : Bool) → is_in_word b ≡ t
        → (no_break left ≡ true) × (take n left ≡ left) ⊎ ((c : ℕ) × (rest : List ℕ) × IsAfter c × IsWord (take n left) × (left ≡ take n left ++ c ∷ rest))
        → (no_break (b ∷ left) ≡ true) × (take (cond t (1 + n) 0) (b ∷ left) ≡ b ∷ left)
        ⊎ ((c : ℕ) × (rest : List ℕ) × IsAfter c × IsWord (take (cond t (1 + n) 0) (b ∷ left)) × (b ∷ left ≡ take (cond t (1 + n) 0) (b ∷ left) ++ c ∷ rest))
    by n false is others = inr (b, left, is, refl, refl)
    by n true is (inl all) =
        let one : 1 + n ≡ suc n = omega arith in
        inl (and_from (is_in_word b) (no_break left) is all.0, ap (λ m. take m (b ∷ left)) one ∙ ap (λ xs. b ∷ xs) all.1)
    by n true is (inr parts) =
        let one : suc n ≡ 1 + n = omega arith in
        inr (
          parts.0,
          parts.1,
          parts.2,
          subst (λ m. IsWord (take m (b ∷ left))) one (and_from (is_in_word b) (no_break (take n left)) is parts.3),
          subst (λ m. b ∷ left ≡ take m (b ∷ left) ++ parts.0 ∷ parts.1) one (ap (λ xs. b ∷ xs) parts.4),
        )

same-length : (xs : List ℕ) → (length xs == length xs) ≡ true
same-length xs = eq-eqb (length xs) (length xs) refl

longer-length : (xs rest : List ℕ) (b : ℕ) → (length xs == length (xs ++ b ∷ rest)) ≡ false
longer-length xs rest b = by (length xs == length (xs ++ b ∷ rest)) refl
  where
    longer : (xs : List ℕ) → length xs < length (xs ++ b ∷ rest)
    longer [] = omega arith
    longer (x ∷ xs) = omega (arith, longer xs)

    by : (t : Bool) → (length xs == length (xs ++ b ∷ rest)) ≡ t → t ≡ false
    by true is = absurd (omega (arith, eqb-true (length xs) (length (xs ++ b ∷ rest)) is, longer xs))
    by false is = refl

at-after : (xs rest : List ℕ) (b d : ℕ) → get_or (xs ++ b ∷ rest) (length xs) d ≡ b
at-after [] rest b d = refl
at-after (x ∷ xs) rest b d = at-after xs rest b d

drop-after : (front rest : List ℕ) (b : ℕ) → drop (length front + 1) (front ++ b ∷ rest) ≡ rest
drop-after front rest b =
    let one : length front + 1 ≡ suc (length front) = omega arith in
    ap (λ n. drop n (front ++ b ∷ rest)) one ∙ by front
  where
    by : (front : List ℕ) → drop (suc (length front)) (front ++ b ∷ rest) ≡ rest
    by [] = refl
    by (f ∷ front) = by front

-- a word of which more may come
within-word : (v w r s : List ℕ) (after : ℕ) → IsWord v → IsWord w → IsAfter after → v ++ r ≡ w ++ after ∷ s → (rest : List ℕ) × (w ≡ v ++ rest)
within-word [] w r s after hv hw ends is = (w, refl)
within-word (b ∷ v) [] r s after hv hw ends is =
    absurd (both_ways (is_in_word b) (subst IsAfter (sym (same-head b after (v ++ r) s is).0) ends) (and_parts (is_in_word b) (no_break v) hv).0)
within-word (b ∷ v) (c ∷ w) r s after hv hw ends is =
    let parts = same-head b c (v ++ r) (w ++ after ∷ s) is in
    let more = within-word v w r s after (and_parts (is_in_word b) (no_break v) hv).1 (and_parts (is_in_word c) (no_break w) hw).1 ends parts.1 in
    (more.0, ap (λ x. x ∷ w) (sym parts.0) ∙ ap (λ xs. b ∷ xs) more.1)

pub line-of-word : (v : List ℕ) → IsWord v → line_left v ≡ v
line-of-word [] h = refl
line-of-word (b ∷ v) h =
    let parts = and_parts (is_in_word b) (no_break v) h in line-word b v parts.0 ∙ ap (λ xs. b ∷ xs) (line-of-word v parts.1)

or-right : (a b : Bool) → b ≡ false → a ≡ (a && true) || b
or-right true b h = refl
or-right false b h = sym h

module _ {A : Type 0} (text : A → List ℕ) (InRange : A → Type 0) (after : ℕ) (words : IsWords text InRange) (ends : IsAfter after) where
  ended-step : (left : List ℕ) (begun begins : Bool) (a : A) → IsWord left → (begins ≡ true → Begins text InRange left) → (Begins text InRange left → begins ≡ true)
      → let old : State = record { left = left; begun = begun; stopped = false } in
      Stops (ended_by after text) InRange shut old (stops (begun || begins) old)
  ended-step left begun begins a word to from = record {
    used = [];
    is = refl;
    viable = (words.some, ended_by after text words.some, words.inside, refl);
    own = begins;
    flag = or-own begun begins;
    begun = λ own. let v = to own in by v.0 v.1 v.2 v.3;
    other = λ own c r s inside _ is.
        let e : left ++ r ≡ text c ++ after ∷ s =
        ap (λ xs. xs ++ r) (sym (line-of-word left word)) ∙ is ∙ append_assoc (text c) (after ∷ []) s in
        let more = within-word left (text c) r s after word (words.word c inside) ends e in
        both_ways begins own (from (c, more.0, inside, more.1));
  }
    where
      by : (c : A) (rest : List ℕ) → InRange c → text c ≡ left ++ rest
          → (d : A) × (b : ℕ) × (more : List ℕ) × InRange d × IsWord left × (ended_by after text d ≡ left ++ b ∷ more)
      by c [] inside is = (c, after, [], inside, word, ap (λ xs. xs ++ after ∷ []) (is ∙ append-nil left))
      by c (b ∷ rest) inside is = (c, b, rest ++ after ∷ [], inside, word, ap (λ xs. xs ++ after ∷ []) is ∙ append_assoc left (b ∷ rest) (after ∷ []))

  -- another word, or another byte after it
  other-step : (word rest : List ℕ) (b : ℕ) (begun : Bool) → IsWord word → IsAfter b → ((c : A) → InRange c → word ≡ text c → b ≡ after → ⊥)
      → let old : State = record { left = word ++ b ∷ rest; begun = begun; stopped = false } in
      Stops (ended_by after text) InRange shut old (stops begun old)
  other-step word rest b begun inside stop none = record {
    used = [];
    is = refl;
    viable = (words.some, ended_by after text words.some, words.inside, refl);
    own = false;
    flag = or-false begun;
    begun = λ own. absurd cc;
    other = λ _ c r s range _ is.
        let line = line-piece-word word b rest inside in
        let e : word ++ b ∷ (line.0 ++ r) ≡ text c ++ after ∷ s =
        sym (ap (λ xs. xs ++ r) line.1 ∙ append_assoc (word ++ b ∷ []) line.0 r ∙ append_assoc word (b ∷ []) (line.0 ++ r))
        ∙ is ∙ append_assoc (text c) (after ∷ []) s in
        let same = same-words word (text c) (line.0 ++ r) s b after inside (words.word c range) stop ends e in
        none c range same.0 same.1;
  }

  there-step : (word rest : List ℕ) (begun : Bool) (a : A) → IsWord word → InRange a → word ≡ text a
      → let old : State = record { left = word ++ after ∷ rest; begun = begun; stopped = false } in
      Took (ended_by after text) InRange shut a old (goes (length word + 1) old)
  there-step word rest begun a inside range is = record {
    range = range;
    is = ap (λ xs. xs ++ after ∷ rest) is ∙ sym (append_assoc (text a) (after ∷ []) rest) ∙ ap (λ xs. (text a ++ after ∷ []) ++ xs) (sym (drop-after word rest after));
    closed = tt;
    flag = ends-false begun (no_break (text a ++ after ∷ []))
        (piece-broken (text a ++ after ∷ []) (record { word = text a; after = after; inside = words.word a range; ends = ends; is = refl }));
  }

  settled-at : (word left : List ℕ) (begun begins : Bool) (told : Option A) (a : A) → Tells text InRange told word → ((x : A) → told ≡ Some x → a ≡ x)
      → (begins ≡ true → Begins text InRange word) → (Begins text InRange word → begins ≡ true)
      → (no_break left ≡ true) × (word ≡ left) ⊎ ((b : ℕ) × (rest : List ℕ) × IsAfter b × IsWord word × (left ≡ word ++ b ∷ rest))
      → let old : State = record { left = left; begun = begun; stopped = false } in
      Reads (ended_by after text) InRange shut a old (settled word after (is_some told) begins old)
  settled-at word left begun begins told a tells same to from (inl all) =
      let old : State = record { left = left; begun = begun; stopped = false } in
      let whole : (length word == length left) ≡ true = ap (λ xs. length xs == length left) all.1 ∙ same-length left in
      let is : stops (begun || begins) old ≡ settled word after (is_some told) begins old =
      ap (λ t. cond t (stops (begun || begins) old) (cond (is_some told && (get_or left (length word) 0 == after)) (goes (length word + 1) old) (stops begun old))) (sym whole) in
      subst (λ new. Reads (ended_by after text) InRange shut a old new) is
      (ended-step left begun begins a all.0 (λ h. subst (Begins text InRange) all.1 (to h)) (λ h. from (subst (Begins text InRange) (sym all.1) h)))
  settled-at word left begun begins told a tells same to from (inr parts) =
      let b = parts.0 in
      let rest = parts.1 in
      subst (λ xs. let old : State = record { left = xs; begun = begun; stopped = false } in Reads (ended_by after text) InRange shut a old (settled word after (is_some told) begins old))
      (sym parts.4) (by b rest parts.2 parts.3 told tells same (b == after) refl)
    where
      compute : (b : ℕ) (rest : List ℕ) (told : Option A) (t : Bool) → (b == after) ≡ t
          → let old : State = record { left = word ++ b ∷ rest; begun = begun; stopped = false } in
          cond (is_some told && t) (goes (length word + 1) old) (stops begun old) ≡ settled word after (is_some told) begins old
      compute b rest told t is =
          let old : State = record { left = word ++ b ∷ rest; begun = begun; stopped = false } in
          ap (λ u. cond (is_some told && u) (goes (length word + 1) old) (stops begun old)) (sym is)
          ∙ ap (λ c. cond (is_some told && (c == after)) (goes (length word + 1) old) (stops begun old)) (sym (at-after word rest b 0))
          ∙ ap (λ u. cond u (stops (begun || begins) old) (cond (is_some told && (get_or old.left (length word) 0 == after)) (goes (length word + 1) old) (stops begun old)))
          (sym (longer-length word rest b))

      by : (b : ℕ) (rest : List ℕ) → IsAfter b → IsWord word → (told : Option A) → Tells text InRange told word → ((x : A) → told ≡ Some x → a ≡ x)
          → (t : Bool) → (b == after) ≡ t
          → let old : State = record { left = word ++ b ∷ rest; begun = begun; stopped = false } in
          Reads (ended_by after text) InRange shut a old (settled word after (is_some told) begins old)
      by b rest stop inside (Some x) tells same true is =
          let old : State = record { left = word ++ b ∷ rest; begun = begun; stopped = false } in
          subst (λ new. Reads (ended_by after text) InRange shut a old new) (compute b rest (Some x) true is)
          (subst (λ y. Took (ended_by after text) InRange shut y old (goes (length word + 1) old)) (sym (same x refl))
          (subst (λ c. let old : State = record { left = word ++ c ∷ rest; begun = begun; stopped = false } in Took (ended_by after text) InRange shut x old (goes (length word + 1) old))
          (sym (eqb-true b after is)) (there-step word rest begun x inside tells.0 tells.1)))
      by b rest stop inside (Some x) tells same false is =
          let old : State = record { left = word ++ b ∷ rest; begun = begun; stopped = false } in
          subst (λ new. Reads (ended_by after text) InRange shut a old new) (compute b rest (Some x) false is)
          (other-step word rest b begun inside stop (λ c range e same-byte.
          both_ways (b == after) is (subst (λ d. (b == d) ≡ true) same-byte (eq-eqb b b refl))))
      by b rest stop inside None tells same t is =
          let old : State = record { left = word ++ b ∷ rest; begun = begun; stopped = false } in
          subst (λ new. Reads (ended_by after text) InRange shut a old new) (compute b rest None t is)
          (other-step word rest b begun inside stop (λ c range e _. tells c range e))

  pub settled-reads : (told : Option A) (a : A) (begins : Bool) (old : State) → Tells text InRange told (front_word old.left) → ((x : A) → told ≡ Some x → a ≡ x)
      → (begins ≡ true → Begins text InRange (front_word old.left)) → (Begins text InRange (front_word old.left) → begins ≡ true)
      → Reads (ended_by after text) InRange shut a old (settled (front_word old.left) after (is_some told) begins old)
  settled-reads told a begins old tells same to from = by old.left old.begun old.stopped tells to from
    where
      by : (left : List ℕ) (begun stopped : Bool) → Tells text InRange told (front_word left) → (begins ≡ true → Begins text InRange (front_word left))
          → (Begins text InRange (front_word left) → begins ≡ true)
          → let s : State = record { left = left; begun = begun; stopped = stopped } in
          Reads (ended_by after text) InRange shut a s (settled (front_word left) after (is_some told) begins s)
      by left begun true tells to from = refl
      by left begun false tells to from = settled-at (front_word left) left begun begins told a tells same to from (front-parts left)

-- ---- a word that is known, or that tells a value

-- a reader at a word that is known
pub known-words : (word : List ℕ) → IsWord word → IsWords {A = Unit {0}} (λ _. word) (λ _. Unit {0})
known-words word h = record { some = tt; inside = tt; word = λ _ _. h; one = λ a b _ _ _. refl }

module _ {A : Type 0} (text : A → List ℕ) (InRange : A → Type 0) (after : ℕ) (words : IsWords text InRange) (ends : IsAfter after) where
  -- what is read of the word that stands next
  pub word-reads : (word : List ℕ) (told : Option A) (flag begins : Bool) (a : A) (old new : State) → word ≡ front_word old.left → flag ≡ is_some told
      → new ≡ settled word after flag begins old → Tells text InRange told word → ((x : A) → told ≡ Some x → a ≡ x)
      → (begins ≡ true → Begins text InRange word) × (Begins text InRange word → begins ≡ true)
      → Reads (ended_by after text) InRange shut a old new
  word-reads word told flag begins a old new front is next tells same begun =
      subst (λ s. Reads (ended_by after text) InRange shut a old s)
      (sym (next ∙ ap (λ w. settled w after flag begins old) front ∙ ap (λ t. settled (front_word old.left) after t begins old) is))
      (settled-reads text InRange after words ends told a begins old (subst (Tells text InRange told) front tells) same
      (λ h. subst (Begins text InRange) front (begun.0 h)) (λ h. begun.1 (subst (Begins text InRange) (sym front) h)))

-- a word that is known
pub known-reads : (known word : List ℕ) (after : ℕ) (flag begins : Bool) (old new : State) → IsWord known → IsAfter after → word ≡ front_word old.left
    → (flag ≡ true → word ≡ known) → (word ≡ known → flag ≡ true) → begins ≡ is_front word known
    → new ≡ settled word after flag begins old → Takes (known ++ after ∷ []) old new
known-reads known word after flag begins old new h ends front to from begun next =
    by flag to from next
  where
    begins-known : (begins ≡ true → Begins {A = Unit {0}} (λ _. known) (λ _. Unit {0}) word) × (Begins {A = Unit {0}} (λ _. known) (λ _. Unit {0}) word → begins ≡ true)
    begins-known = (
      λ yes. let more = is-front word known (sym begun ∙ yes) in (tt, more.0, tt, more.1),
      λ b. begun ∙ subst (λ xs. is_front word xs ≡ true) (sym b.3) (front-is word b.1),
    )

    by : (flag : Bool) → (flag ≡ true → word ≡ known) → (word ≡ known → flag ≡ true) → new ≡ settled word after flag begins old → Takes (known ++ after ∷ []) old new
    by true to from next =
        word-reads {A = Unit {0}} (λ _. known) (λ _. Unit {0}) after (known-words known h) ends word (Some tt) true begins tt old new front refl next (tt, to refl) (λ x _. refl)
        begins-known
    by false to from next =
        word-reads {A = Unit {0}} (λ _. known) (λ _. Unit {0}) after (known-words known h) ends word None false begins tt old new front refl next
        (λ x _ is. both_ways false refl (from is)) (λ x _. refl) begins-known

-- ---- tests

pub empty-list : (xs : List ℕ) (n : ℕ) → n ≡ length xs → (n == 0) ≡ true → xs ≡ []
empty-list [] n is h = refl
empty-list (x ∷ xs) n is h = absurd (omega (arith, is, eqb-true n 0 h))

pub filled-list : (xs : List ℕ) (n : ℕ) → n ≡ length xs → (n == 0) ≡ false → 0 < length xs
filled-list [] n is h = absurd (both_ways (n == 0) h (subst (λ m. (m == 0) ≡ true) (sym is) refl))
filled-list (x ∷ xs) n is h = omega arith

pub some-first : {k n : ℕ} {p : ℕ × ℕ} → Some (k, n) ≡ Some p → k ≡ p.0
some-first {k} {n} {p} is = ap (λ (o : Option (ℕ × ℕ)). elim o as (λ _. ℕ) [ None ↦ 0 | Some q ↦ q.0 ]) is

pub none-first : {k : ℕ} {p : ℕ × ℕ} → None ≡ Some p → k ≡ p.0
none-first is = absurd cc

pub then-some-is : {A : Type 0} (b : Bool) (a : A) → b ≡ is_some (then_some b a)
then-some-is true a = refl
then-some-is false a = refl

pub then-some-value : {A : Type 0} (b : Bool) (a x : A) → then_some b a ≡ Some x → a ≡ x
then-some-value true a x is = ap (λ o. unwrap_or o a) is
then-some-value false a x is = absurd cc
