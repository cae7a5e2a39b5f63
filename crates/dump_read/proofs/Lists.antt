-- Lists of values, each of which begins with one piece.
use Rattle.std.proofs.Common.{◌≡◌, ℕ, zero, suc, ◌+◌, Bool, true, false, cond, List, [], ◌∷◌, ◌++◌, length, refl, sym, subst, ap, ◌∙◌, append_assoc, append-nil, arith, inl, inr, ◌⊎◌}
use Rattle.std.specs.Prelude.{◌&&◌, ◌||◌, ◌==◌}
use Rattle.std.specs.List.{AllByRecursion}
use Rattle.std.proofs.lemmas.Bool.{both_ways, or_parts, or_cases, and_parts}
use Rattle.dump_model.specs.Words.{is_in_word, no_break, IsWord}
use Rattle.dump_read.specs.Taken.{IsPiece, line_left, is_front, Apart, AllApart, is_begun, State, Took, Stops, Outcome, Reads, shut}
use Rattle.dump_read.specs.Settled.{IsNext}
use Rattle.dump_read.specs.Sequences.{opens_after, list_text, list_opens, AllIn, CountIn}
use Rattle.dump_model.proofs.WordLaws.{no_break-append}
use Rattle.dump_read.proofs.Fronts.{front-is, stays-apart, begun-part, line-word, line-begins}
use Rattle.dump_read.proofs.After.{IsForm, reads-after}
use Rattle.dump_read.proofs.Forms.{same-pieces, piece-broken, front-broken}

-- ---- what goes on

pub left-part : (ps qs : List (List ℕ)) (P : List ℕ → Type 0) → AllByRecursion P (ps ++ qs) → AllByRecursion P ps
left-part [] qs P h = tt
left-part (p ∷ ps) qs P h = (h.0, left-part ps qs P h.1)

both-parts : (ps qs : List (List ℕ)) (P : List ℕ → Type 0) → AllByRecursion P ps → AllByRecursion P qs → AllByRecursion P (ps ++ qs)
both-parts [] qs P hp hq = hq
both-parts (p ∷ ps) qs P hp hq = (hp.0, both-parts ps qs P hp.1 hq)

after-left : (ps qs : List (List ℕ)) (P : List ℕ → Type 0) → AllByRecursion P (opens_after true ps qs) → AllByRecursion P ps
after-left [] qs P h = tt
after-left (p ∷ ps) qs P h = left-part (p ∷ ps) qs P h

after-both : (ps qs : List (List ℕ)) (P : List ℕ → Type 0) → AllByRecursion P ps → AllByRecursion P qs → AllByRecursion P (opens_after true ps qs)
after-both [] qs P hp hq = hq
after-both (p ∷ ps) qs P hp hq = both-parts (p ∷ ps) qs P hp hq

pub after-text : (ps qs : List (List ℕ)) → opens_after false ps qs ≡ qs
after-text [] qs = refl
after-text (p ∷ ps) qs = refl

-- ---- a piece in front

pub line-piece-word : (word : List ℕ) (after : ℕ) (rest : List ℕ) → IsWord word → (z : List ℕ) × (line_left (word ++ after ∷ rest) ≡ (word ++ after ∷ []) ++ z)
line-piece-word [] after rest h = (cond (after == 10) [] (line_left rest), refl)
line-piece-word (w ∷ word) after rest h =
    let parts = and_parts (is_in_word w) (no_break word) h in
    let more = line-piece-word word after rest parts.1 in
    (more.0, line-word w (word ++ after ∷ rest) parts.0 ∙ ap (λ xs. w ∷ xs) more.1)

line-piece : (piece rest : List ℕ) → IsPiece piece → (z : List ℕ) × (line_left (piece ++ rest) ≡ piece ++ z)
line-piece piece rest p =
    let more = line-piece-word p.word p.after rest p.inside in
    (more.0, ap (λ xs. line_left (xs ++ rest)) p.is ∙ ap line_left (append_assoc p.word (p.after ∷ []) rest) ∙ more.1 ∙ ap (λ xs. xs ++ more.0) (sym p.is))

-- a piece that stands in front still does, where a part of the bytes and the line after it are kept
pub next-stays : (piece left rest u x r : List ℕ) → IsPiece piece → left ≡ piece ++ rest → left ≡ u ++ x → (z : List ℕ) × (u ++ (line_left x ++ r) ≡ piece ++ z)
next-stays piece left rest u x r p next parts =
    let line = line-begins u x in
    let whole = line-piece piece rest p in (
      (whole.0 ++ line.0) ++ r,
      sym (append_assoc u (line_left x) r) ∙ ap (λ xs. xs ++ r) (line.1 ∙ ap (λ xs. line_left xs ++ line.0) (sym parts ∙ next) ∙ ap (λ xs. xs ++ line.0) whole.1)
          ∙ regroup piece whole.0 line.0 r,
    )
  where
    regroup : (p a b c : List ℕ) → ((p ++ a) ++ b) ++ c ≡ p ++ ((a ++ b) ++ c)
    regroup p a b c = simp append_assoc

-- ---- a text that does not stand next, and another value

pub record IsElse {B C : Type 0} (piece : List ℕ) (tb : B → List ℕ) (ib : B → Type 0) (tc : C → List ℕ) (ic : C → Type 0) (con : B → C) : Type 0 where
  pub into : (b : B) → ib b → ic (con b)
  pub text : (b : B) → ib b → tc (con b) ≡ tb b
  pub back : (c : C) → ic c → ((b : B) × ib b × (c ≡ con b)) ⊎ ((rest : List ℕ) × (tc c ≡ piece ++ rest))
  pub some : (c : C) × (rest : List ℕ) × ic c × (tc c ≡ piece ++ rest)
  pub ended : (b : B) → ib b → no_break (tb b) ≡ false

else-flag : (o g q w n : Bool) → n ≡ ((o || g) && q) || w → n ≡ (o && q) || ((g && q) || w)
else-flag o g q w n h = h ∙ by o g q w
  where
    by : (o g q w : Bool) → ((o || g) && q) || w ≡ (o && q) || ((g && q) || w)
    by true true true w = refl
    by true true false w = refl
    by true false true w = refl
    by true false false w = refl
    by false g q w = refl

ended-flag : (o m n q : Bool) → q ≡ false → n ≡ (m && q) || false → n ≡ (o && q) || false
ended-flag o m n q none h = h ∙ ap (λ t. (m && t) || false) none ∙ by m o ∙ ap (λ t. (o && t) || false) (sym none)
  where
    by : (a b : Bool) → (a && false) || false ≡ (b && false) || false
    by true true = refl
    by true false = refl
    by false true = refl
    by false false = refl

pub read-else : {B C : Type 0} (piece : List ℕ) (tb : B → List ℕ) (ib : B → Type 0) (tc : C → List ℕ) (ic : C → Type 0) (con : B → C) (b : B) (old mid new : State)
    → IsPiece piece → IsElse piece tb ib tc ic con → IsNext piece false old mid → Reads tb ib shut b mid new → Reads tc ic shut (con b) old new
read-else {B} {C} piece tb ib tc ic con b old mid new p law next reads =
    by old.left old.begun old.stopped mid new.stopped next refl reads
  where
    begun-of : (left used rest : List ℕ) → left ≡ used ++ rest → is_front piece left ≡ false → is_front left piece ≡ true
        → (c : C) × (b : ℕ) × (more : List ℕ) × ic c × IsWord rest × (tc c ≡ used ++ (rest ++ b ∷ more))
    begun-of left used rest parts other front =
        let part = begun-part (piece ∷ []) left (λ w. w ≡ piece) (p, tt) ((λ more is. not-front piece left more other is), tt) (refl, tt) (yes-or front) in
        let word = and_parts (no_break used) (no_break rest) (sym (no_break-append used rest) ∙ ap no_break (sym parts) ∙ part.2) in (
          law.some.0,
          part.0,
          part.1 ++ law.some.1,
          law.some.2,
          word.1,
          law.some.3 ∙ ap (λ xs. xs ++ law.some.1) (sym part.3 ∙ ap (λ xs. xs ++ part.0 ∷ part.1) parts) ∙ regroup used rest (part.0 ∷ part.1) law.some.1,
        )
      where
        yes-or : is_front left piece ≡ true → is_begun (piece ∷ []) left ≡ true
        yes-or h = ap (λ t. t || false) h

        not-front : (piece left more : List ℕ) → is_front piece left ≡ false → left ≡ piece ++ more → ⊥
        not-front piece left more other is = both_ways (is_front piece left) other (subst (λ xs. is_front piece xs ≡ true) (sym is) (front-is piece more))

        regroup : (u n q r : List ℕ) → ((u ++ n) ++ q) ++ r ≡ u ++ (n ++ (q ++ r))
        regroup u n q r = simp append_assoc

    apart-of : (left : List ℕ) → is_front piece left ≡ false → Apart left piece
    apart-of left other more is = both_ways (is_front piece left) other (subst (λ xs. is_front piece xs ≡ true) (sym is) (front-is piece more))

    stops : (left : List ℕ) (begun : Bool) → is_front piece left ≡ false
        → let old : State = record { left = left; begun = begun; stopped = false } in
        let mid : State = record { left = left; begun = begun || is_front left piece; stopped = false } in Stops tb ib shut mid new → Stops tc ic shut old new
    stops left begun other s = record {
      used = s.used;
      is = s.is;
      viable = let v = s.viable in (con v.0, v.1, law.into v.0 v.2, law.text v.0 v.2 ∙ v.3);
      own = (is_front left piece && no_break s.used) || s.own;
      flag = else-flag begun (is_front left piece) (no_break s.used) s.own new.begun s.flag;
      begun = λ own. when (or_cases (is_front left piece && no_break s.used) s.own own);
      other = λ own c r z inside _ is.
          let flags = or_parts (is_front left piece && no_break s.used) s.own own in
          no-other flags.0 flags.1 c r z inside is (law.back c inside);
    }
      where
        when : (is_front left piece && no_break s.used ≡ true) ⊎ (s.own ≡ true)
            → (c : C) × (b : ℕ) × (more : List ℕ) × ic c × IsWord new.left × (tc c ≡ s.used ++ (new.left ++ b ∷ more))
        when (inl go) = begun-of left s.used new.left s.is other (and_parts (is_front left piece) (no_break s.used) go).0
        when (inr own) = let v = s.begun own in (con v.0, v.1, v.2, law.into v.0 v.3, v.4, law.text v.0 v.3 ∙ v.5)

        no-other : is_front left piece && no_break s.used ≡ false → s.own ≡ false → (c : C) (r z : List ℕ) → ic c
            → s.used ++ (line_left new.left ++ r) ≡ tc c ++ z → ((b : B) × ib b × (c ≡ con b)) ⊎ ((rest : List ℕ) × (tc c ≡ piece ++ rest)) → ⊥
        no-other go own c r z inside is (inl x) = s.other own x.0 r z x.1 tt (is ∙ ap (λ xs. xs ++ z) (ap tc x.2 ∙ law.text x.0 x.1))
        no-other go own c r z inside is (inr more) =
            stays-apart piece s.used new.left r p (subst (λ xs. Apart xs piece) s.is (apart-of left other))
            (subst (λ xs. is_front xs piece && no_break s.used ≡ false) s.is go) (more.0 ++ z) (is ∙ ap (λ xs. xs ++ z) more.1 ∙ append_assoc piece more.0 z)

    by : (left : List ℕ) (begun stopped : Bool) (mid : State) (n : Bool)
        → let old : State = record { left = left; begun = begun; stopped = stopped } in
        IsNext piece false old mid → new.stopped ≡ n → Outcome mid.stopped n tb ib shut b mid new → Outcome stopped n tc ic shut (con b) old new
    by left begun true mid n next hn reads =
        (subst (λ (m : State). Outcome m.stopped n tb ib shut b m new) next reads)
    by left begun false mid true next hn reads =
        stops left begun next.1 (subst (λ (m : State). Outcome m.stopped true tb ib shut b m new) next.0 reads)
    by left begun false mid false next hn reads =
        let took : Took tb ib shut b (record { left = left; begun = begun || is_front left piece; stopped = false }) new =
        subst (λ (m : State). Outcome m.stopped false tb ib shut b m new) next.0 reads in
        record {
          range = law.into b took.range;
          is = took.is ∙ ap (λ xs. xs ++ new.left) (sym (law.text b took.range));
          closed = tt;
          flag =
              ended-flag begun (begun || is_front left piece) new.begun (no_break (tb b)) (law.ended b took.range) took.flag
              ∙ ap (λ xs. (begun && no_break xs) || false) (sym (law.text b took.range));
        }

-- ---- elements

-- Texts of values under a number that begin with a piece. No such piece goes on after one of them.
pub record IsElement {X : Type 0} (text : ℕ × X → List ℕ) (InRange : X → Type 0) (opens : X → List (List ℕ)) (first : List ℕ) : Type 0 where
  pub piece : IsPiece first
  pub some : X
  pub inside : InRange some
  pub front : (k : ℕ) (x : X) → InRange x → (rest : List ℕ) × (text (k, x) ≡ first ++ rest)
  pub one : (k : ℕ) (a b : X) (r s : List ℕ) → InRange a → InRange b → AllApart (opens a) r → AllApart (opens b) s → text (k, a) ++ r ≡ text (k, b) ++ s
      → (a ≡ b) × (r ≡ s)
  pub pieces : (x : X) → InRange x → AllByRecursion IsPiece (opens x)
  pub longer : (k : ℕ) (x : X) → InRange x → AllByRecursion (λ v. (b : X) × (rest : List ℕ) × InRange b × (text (k, b) ≡ text (k, x) ++ (v ++ rest))) (opens x)
  pub differ : (x : X) → InRange x → AllByRecursion (λ v. v ≡ first → ⊥) (opens x)

module _ {X : Type 0} (text : ℕ × X → List ℕ) (InRange : X → Type 0) (opens : X → List (List ℕ)) (first : List ℕ) (element : IsElement text InRange opens first) where
  text-broken : (k : ℕ) (x : X) (xs : List ℕ) → InRange x → no_break (text (k, x) ++ xs) ≡ false
  text-broken k x xs h =
      let front = element.front k x h in
      front-broken (text (k, x)) xs (ap no_break front.1 ∙ front-broken first front.0 (piece-broken first element.piece))

  pub element-form : (k : ℕ) → IsForm (λ x. text (k, x)) InRange opens
  element-form k = record {
    one = λ a b r s ha hb ra sb is. element.one k a b r s ha hb ra sb is;
    broken = λ a ha whole.
        let broken : no_break (text (k, a)) ≡ false = ap no_break (sym (append-nil (text (k, a)))) ∙ text-broken k a [] ha in
        absurd (both_ways (no_break (text (k, a))) broken whole);
    pieces = element.pieces;
    longer = λ x h. element.longer k x h;
  }

  pub list-broken : (k : ℕ) (xs : List X) → AllIn InRange xs → no_break (list_text text k xs) ≡ true → list_text text k xs ≡ []
  list-broken k [] h whole = refl
  list-broken k (x ∷ xs) h whole = absurd (both_ways (no_break (list_text text k (x ∷ xs))) (text-broken k x (list_text text (k + 1) xs) h.0) whole)

  -- no other piece stands there
  differ-apart : (ps : List (List ℕ)) (z : List ℕ) → AllByRecursion IsPiece ps → AllByRecursion (λ v. v ≡ first → ⊥) ps → AllApart ps (first ++ z)
  differ-apart [] z pieces differ = tt
  differ-apart (p ∷ ps) z pieces differ =
      (λ rest is. differ.0 (sym (same-pieces first p z rest element.piece pieces.0 is).0), differ-apart ps z pieces.1 differ.1)

  -- what stands after an element of a list does not go on with it
  after-element : (more : List (List ℕ)) (k : ℕ) (x : X) (xs : List X) (s : List ℕ) → InRange x → AllIn InRange xs → AllApart (list_opens more opens (x ∷ xs)) s
      → AllApart (opens x) (list_text text k xs ++ s)
  after-element more k x [] s hx hxs apart = after-left (opens x) more (Apart s) apart
  after-element more k x (y ∷ ys) s hx hxs apart =
      let front = element.front k y hxs.0 in
      let all = list_text text (k + 1) ys in
      let is : first ++ ((front.0 ++ all) ++ s) ≡ (text (k, y) ++ all) ++ s =
      sym (append_assoc first (front.0 ++ all) s) ∙ ap (λ xs. xs ++ s) (sym (append_assoc first front.0 all) ∙ ap (λ xs. xs ++ all) (sym front.1)) in
      subst (AllApart (opens x)) is (differ-apart (opens x) ((front.0 ++ all) ++ s) (element.pieces x hx) (element.differ x hx))

  right-part : (ps qs : List (List ℕ)) (P : List ℕ → Type 0) → AllByRecursion P (opens_after true ps qs) → AllByRecursion P qs
  right-part [] qs P h = h
  right-part (p ∷ ps) qs P h = by (p ∷ ps) h
    where
      by : (ps : List (List ℕ)) → AllByRecursion P (ps ++ qs) → AllByRecursion P qs
      by [] h = h
      by (q ∷ ps) h = by ps h.1

  apart-others : (more : List (List ℕ)) (x : X) (xs : List X) (s : List ℕ) → AllApart (list_opens more opens (x ∷ xs)) s → AllApart (list_opens more opens xs) s
  apart-others more x [] s h = right-part (opens x) more (Apart s) h
  apart-others more x (y ∷ ys) s h = h

  opens-cons : (more : List (List ℕ)) (k : ℕ) (x : X) (xs : List X) → AllIn InRange xs
      → list_opens more opens (x ∷ xs) ≡ opens_after (no_break (list_text text k xs)) (opens x) (list_opens more opens xs)
  opens-cons more k x [] h = refl
  opens-cons more k x (y ∷ ys) h =
      sym (after-text (opens x) (list_opens more opens (y ∷ ys)))
      ∙ ap (λ t. opens_after t (opens x) (list_opens more opens (y ∷ ys))) (sym (text-broken k y (list_text text (k + 1) ys) h.0))

  -- ---- a list that goes on while the piece stands next

  -- one element and others after it begin with the piece
  rest-of : (k : ℕ) (y : X) (ys : List X) (s : List ℕ) → InRange y → List ℕ
  rest-of k y ys s h = ((element.front k y h).0 ++ list_text text (k + 1) ys) ++ s

  rest-is : (k : ℕ) (y : X) (ys : List X) (s : List ℕ) (h : InRange y) → (text (k, y) ++ list_text text (k + 1) ys) ++ s ≡ first ++ rest-of k y ys s h
  unfolding rest-of
  rest-is k y ys s h =
      ap (λ xs. (xs ++ list_text text (k + 1) ys) ++ s) (element.front k y h).1 ∙ regroup first (element.front k y h).0 (list_text text (k + 1) ys) s
    where
      regroup : (p a b c : List ℕ) → ((p ++ a) ++ b) ++ c ≡ p ++ ((a ++ b) ++ c)
      regroup p a b c = simp append_assoc

  star-one : (k : ℕ) (xs ys : List X) (r s : List ℕ) → AllIn InRange xs → AllIn InRange ys → AllApart (list_opens (first ∷ []) opens xs) r
      → AllApart (list_opens (first ∷ []) opens ys) s → list_text text k xs ++ r ≡ list_text text k ys ++ s → (xs ≡ ys) × (r ≡ s)
  star-one k [] [] r s hx hy ra sa is = (refl, is)
  star-one k [] (y ∷ ys) r s hx hy ra sa is = absurd (ra.0 (rest-of k y ys s hy.0) (is ∙ rest-is k y ys s hy.0))
  star-one k (x ∷ xs) [] r s hx hy ra sa is = absurd (sa.0 (rest-of k x xs r hx.0) (sym is ∙ rest-is k x xs r hx.0))
  star-one k (x ∷ xs) (y ∷ ys) r s hx hy ra sa is =
      let fronts = element.one k x y (list_text text (k + 1) xs ++ r) (list_text text (k + 1) ys ++ s) hx.0 hy.0
      (after-element (first ∷ []) (k + 1) x xs r hx.0 hx.1 ra) (after-element (first ∷ []) (k + 1) y ys s hy.0 hy.1 sa)
      (sym (append_assoc (text (k, x)) (list_text text (k + 1) xs) r) ∙ is ∙ append_assoc (text (k, y)) (list_text text (k + 1) ys) s) in
      let others = star-one (k + 1) xs ys r s hx.1 hy.1 (apart-others (first ∷ []) x xs r ra) (apart-others (first ∷ []) y ys s sa) fronts.1 in
      (ap (λ z. z ∷ xs) fronts.0 ∙ ap (λ zs. y ∷ zs) others.0, others.1)

  pieces-of : (more : List (List ℕ)) (xs : List X) → AllByRecursion IsPiece more → AllIn InRange xs → AllByRecursion IsPiece (list_opens more opens xs)
  pieces-of more [] ps h = ps
  pieces-of more (x ∷ []) ps h = after-both (opens x) more IsPiece (element.pieces x h.0) ps
  pieces-of more (x ∷ y ∷ xs) ps h = pieces-of more (y ∷ xs) ps h.1

  Longer : (List X → Type 0) → ℕ → List X → List ℕ → Type 0
  Longer In k xs v = (ys : List X) × (rest : List ℕ) × In ys × (list_text text k ys ≡ list_text text k xs ++ (v ++ rest))

  pub map-all : (P Q : List ℕ → Type 0) (ps : List (List ℕ)) → ((v : List ℕ) → P v → Q v) → AllByRecursion P ps → AllByRecursion Q ps
  map-all P Q [] f h = tt
  map-all P Q (p ∷ ps) f h = (f p h.0, map-all P Q ps f h.1)

  -- after the last element
  longer-last : (k : ℕ) (x : X) (v : List ℕ) → InRange x → (b : X) × (rest : List ℕ) × InRange b × (text (k, b) ≡ text (k, x) ++ (v ++ rest))
      → (b : X) × (rest : List ℕ) × InRange b × (list_text text k (b ∷ []) ≡ list_text text k (x ∷ []) ++ (v ++ rest))
  longer-last k x v h b =
      (b.0, b.1, b.2, append-nil (text (k, b.0)) ∙ b.3 ∙ ap (λ xs. xs ++ (v ++ b.1)) (sym (append-nil (text (k, x)))))

  one-more : (k : ℕ) → (rest : List ℕ) × (list_text text k (element.some ∷ []) ≡ first ++ rest)
  one-more k = let front = element.front k element.some element.inside in (front.0, append-nil (text (k, element.some)) ∙ front.1)

  star-longer : (k : ℕ) (xs : List X) → AllIn InRange xs → AllByRecursion (Longer (AllIn InRange) k xs) (list_opens (first ∷ []) opens xs)
  unfolding Longer
  star-longer k [] h = let front = one-more k in ((element.some ∷ [], front.0, (element.inside, tt), front.1), tt)
  star-longer k (x ∷ []) h =
      let front = one-more (k + 1) in
      after-both (opens x) (first ∷ []) (Longer (AllIn InRange) k (x ∷ []))
      (map-all (λ v. (b : X) × (rest : List ℕ) × InRange b × (text (k, b) ≡ text (k, x) ++ (v ++ rest))) (Longer (AllIn InRange) k (x ∷ [])) (opens x)
      (λ v b. let c = longer-last k x v h.0 b in (c.0 ∷ [], c.1, (c.2, tt), c.3)) (element.longer k x h.0))
      ((x ∷ element.some ∷ [], front.0, (h.0, (element.inside, tt)), ap (λ xs. text (k, x) ++ xs) front.1 ∙ ap (λ xs. xs ++ (first ++ front.0)) (sym (append-nil (text (k, x))))), tt)
  star-longer k (x ∷ y ∷ xs) h =
      map-all (Longer (AllIn InRange) (k + 1) (y ∷ xs)) (Longer (AllIn InRange) k (x ∷ y ∷ xs)) (list_opens (first ∷ []) opens (y ∷ xs))
      (λ v more. (
        x ∷ more.0,
        more.1,
        (h.0, more.2),
        ap (λ zs. text (k, x) ++ zs) more.3 ∙ sym (append_assoc (text (k, x)) (list_text text (k + 1) (y ∷ xs)) (v ++ more.1)),
      ))
      (star-longer (k + 1) (y ∷ xs) h.1)

  pub star-form : (k : ℕ) → IsForm (list_text text k) (AllIn InRange) (list_opens (first ∷ []) opens)
  unfolding Longer
  star-form k = record {
    one = star-one k;
    broken = list-broken k;
    pieces = λ xs h. pieces-of (first ∷ []) xs (element.piece, tt) h;
    longer = λ xs h. star-longer k xs h;
  }

  -- no more elements: the piece does not stand next
  pub star-ends : (k : ℕ) (old new : State) → new.left ≡ old.left → Apart old.left first → new.begun ≡ old.begun || is_front old.left first
      → Took (list_text text k) (AllIn InRange) (list_opens (first ∷ []) opens) [] old new
  star-ends k old new same apart flag = record {
    range = tt;
    is = sym same;
    closed = (λ rest is. apart rest (sym same ∙ is), tt);
    flag = flag ∙ by old.begun (is_front old.left first) ∙ ap (λ xs. (old.begun && true) || (is_front xs first || false)) (sym same);
  }
    where
      by : (a b : Bool) → a || b ≡ (a && true) || (b || false)
      by true b = refl
      by false true = refl
      by false false = refl

  -- one element, and others after it
  pub star-goes : (k : ℕ) (x : X) (xs : List X) (old mid new : State) → (rest : List ℕ) × (old.left ≡ first ++ rest) → Reads (λ y. text (k, y)) InRange opens x old mid
      → Reads (list_text text (k + 1)) (AllIn InRange) (list_opens (first ∷ []) opens) xs mid new
      → Reads (list_text text k) (AllIn InRange) (list_opens (first ∷ []) opens) (x ∷ xs) old new
  star-goes k x xs old mid new next one others =
      reads-after (λ y. text (k, y)) InRange opens (list_text text (k + 1)) (AllIn InRange) (list_opens (first ∷ []) opens) (list_text text k) (AllIn InRange)
      (list_opens (first ∷ []) opens) x xs (λ ys. x ∷ ys) old mid new (element-form k) (list-broken (k + 1))
      (record {
        into = λ ys hx h. (hx, h);
        text = λ ys _ _. refl;
        opens = λ ys hx h. opens-cons (first ∷ []) (k + 1) x ys h;
        back = λ c r s hx h ra sa is. back c r s hx h ra sa is;
        starts = λ y h. (y ∷ [], [], (h, tt), refl);
        begins = λ c u z r s h sa left is. begins c u z r s h sa left is;
      })
      one others
    where
      back : (c : List X) (r s : List ℕ) → InRange x → AllIn InRange c → AllApart (opens x) r → AllApart (list_opens (first ∷ []) opens c) s
          → text (k, x) ++ r ≡ list_text text k c ++ s → (ys : List X) × AllIn InRange ys × (c ≡ x ∷ ys)
      back [] r s hx h ra sa is =
          let front = element.front k x hx in
          absurd (sa.0 (front.0 ++ r) (sym is ∙ ap (λ xs. xs ++ r) front.1 ∙ append_assoc first front.0 r))
      back (y ∷ ys) r s hx h ra sa is =
          let same = element.one k x y r (list_text text (k + 1) ys ++ s) hx h.0 ra (after-element (first ∷ []) (k + 1) y ys s h.0 h.1 sa)
          (is ∙ append_assoc (text (k, y)) (list_text text (k + 1) ys) s) in
          (ys, h.1, ap (λ z. z ∷ ys) (sym same.0))

      begins : (c : List X) (u z r s : List ℕ) → AllIn InRange c → AllApart (list_opens (first ∷ []) opens c) s → old.left ≡ u ++ z
          → u ++ (line_left z ++ r) ≡ list_text text k c ++ s
          → (y : X) × (t : List ℕ) × InRange y × AllApart (opens y) t × (list_text text k c ++ s ≡ text (k, y) ++ t)
      begins [] u z r s h sa left is =
          let there = next-stays first old.left next.0 u z r element.piece next.1 left in
          absurd (sa.0 there.0 (sym is ∙ there.1))
      begins (y ∷ ys) u z r s h sa left is =
          (y, list_text text (k + 1) ys ++ s, h.0, after-element (first ∷ []) (k + 1) y ys s h.0 h.1 sa, append_assoc (text (k, y)) (list_text text (k + 1) ys) s)

  -- ---- a list of so many

  count-one : (n k : ℕ) (xs ys : List X) (r s : List ℕ) → CountIn InRange n xs → CountIn InRange n ys → AllApart (list_opens [] opens xs) r
      → AllApart (list_opens [] opens ys) s → list_text text k xs ++ r ≡ list_text text k ys ++ s → (xs ≡ ys) × (r ≡ s)
  count-one n k [] [] r s hx hy ra sa is = (refl, is)
  count-one n k [] (y ∷ ys) r s hx hy ra sa is = absurd (omega (arith, hx.1, hy.1))
  count-one n k (x ∷ xs) [] r s hx hy ra sa is = absurd (omega (arith, hx.1, hy.1))
  count-one n k (x ∷ xs) (y ∷ ys) r s hx hy ra sa is =
      let fronts = element.one k x y (list_text text (k + 1) xs ++ r) (list_text text (k + 1) ys ++ s) hx.0.0 hy.0.0
      (after-element [] (k + 1) x xs r hx.0.0 hx.0.1 ra) (after-element [] (k + 1) y ys s hy.0.0 hy.0.1 sa)
      (sym (append_assoc (text (k, x)) (list_text text (k + 1) xs) r) ∙ is ∙ append_assoc (text (k, y)) (list_text text (k + 1) ys) s) in
      let others = count-one (length xs) (k + 1) xs ys r s (hx.0.1, refl) (hy.0.1, omega (arith, hx.1, hy.1)) (apart-others [] x xs r ra) (apart-others [] y ys s sa) fronts.1 in
      (ap (λ z. z ∷ xs) fronts.0 ∙ ap (λ zs. y ∷ zs) others.0, others.1)

  count-longer : (n k : ℕ) (xs : List X) → CountIn InRange n xs → AllByRecursion (Longer (CountIn InRange n) k xs) (list_opens [] opens xs)
  unfolding Longer
  count-longer n k [] h = tt
  count-longer n k (x ∷ []) h =
      after-both (opens x) [] (Longer (CountIn InRange n) k (x ∷ []))
      (map-all (λ v. (b : X) × (rest : List ℕ) × InRange b × (text (k, b) ≡ text (k, x) ++ (v ++ rest))) (Longer (CountIn InRange n) k (x ∷ [])) (opens x)
      (λ v b. let c = longer-last k x v h.0.0 b in (c.0 ∷ [], c.1, ((c.2, tt), omega (arith, h.1)), c.3)) (element.longer k x h.0.0))
      tt
  count-longer n k (x ∷ y ∷ xs) h =
      map-all (Longer (CountIn InRange (length (y ∷ xs))) (k + 1) (y ∷ xs)) (Longer (CountIn InRange n) k (x ∷ y ∷ xs)) (list_opens [] opens (y ∷ xs))
      (λ v more. (
        x ∷ more.0,
        more.1,
        ((h.0.0, more.2.0), omega (arith, more.2.1, h.1)),
        ap (λ zs. text (k, x) ++ zs) more.3 ∙ sym (append_assoc (text (k, x)) (list_text text (k + 1) (y ∷ xs)) (v ++ more.1)),
      ))
      (count-longer (length (y ∷ xs)) (k + 1) (y ∷ xs) (h.0.1, refl))

  pub count-form : (n k : ℕ) → IsForm (list_text text k) (CountIn InRange n) (list_opens [] opens)
  unfolding Longer
  count-form n k = record {
    one = count-one n k;
    broken = λ xs h. list-broken k xs h.0;
    pieces = λ xs h. pieces-of [] xs tt h.0;
    longer = λ xs h. count-longer n k xs h;
  }

  pub so-many : (n : ℕ) → (xs : List X) × CountIn InRange n xs
  so-many zero = ([], (tt, refl))
  so-many (suc n) = let more = so-many n in (element.some ∷ more.0, ((element.inside, more.1.0), omega (arith, more.1.1)))

  pub count-ends : (k : ℕ) (old : State) → Took (list_text text k) (CountIn InRange 0) (list_opens [] opens) [] old old
  count-ends k old = record { range = (tt, refl); is = refl; closed = tt; flag = by old.begun }
    where
      by : (a : Bool) → a ≡ (a && true) || false
      by true = refl
      by false = refl

  pub count-goes : (n m k : ℕ) (x : X) (xs : List X) (old mid new : State) → n ≡ m + 1 → Reads (λ y. text (k, y)) InRange opens x old mid
      → Reads (list_text text (k + 1)) (CountIn InRange m) (list_opens [] opens) xs mid new
      → Reads (list_text text k) (CountIn InRange n) (list_opens [] opens) (x ∷ xs) old new
  count-goes n m k x xs old mid new less one others =
      reads-after (λ y. text (k, y)) InRange opens (list_text text (k + 1)) (CountIn InRange m) (list_opens [] opens) (list_text text k) (CountIn InRange n)
      (list_opens [] opens) x xs (λ ys. x ∷ ys) old mid new (element-form k) (λ ys h. list-broken (k + 1) ys h.0)
      (record {
        into = λ ys hx h. ((hx, h.0), omega (arith, h.1, less));
        text = λ ys _ _. refl;
        opens = λ ys hx h. opens-cons [] (k + 1) x ys h.0;
        back = λ c r s hx h ra sa is. back c r s hx h ra sa is;
        starts = λ y h. let more = so-many m in (y ∷ more.0, list_text text (k + 1) more.0, ((h, more.1.0), omega (arith, more.1.1, less)), refl);
        begins = λ c u z r s h sa left is. begins c u z r s h sa left is;
      })
      one others
    where
      back : (c : List X) (r s : List ℕ) → InRange x → CountIn InRange n c → AllApart (opens x) r → AllApart (list_opens [] opens c) s
          → text (k, x) ++ r ≡ list_text text k c ++ s → (ys : List X) × CountIn InRange m ys × (c ≡ x ∷ ys)
      back [] r s hx h ra sa is = absurd (omega (arith, h.1, less))
      back (y ∷ ys) r s hx h ra sa is =
          let same = element.one k x y r (list_text text (k + 1) ys ++ s) hx h.0.0 ra (after-element [] (k + 1) y ys s h.0.0 h.0.1 sa)
          (is ∙ append_assoc (text (k, y)) (list_text text (k + 1) ys) s) in
          (ys, (h.0.1, omega (arith, h.1, less)), ap (λ z. z ∷ ys) (sym same.0))

      begins : (c : List X) (u z r s : List ℕ) → CountIn InRange n c → AllApart (list_opens [] opens c) s → old.left ≡ u ++ z
          → u ++ (line_left z ++ r) ≡ list_text text k c ++ s
          → (y : X) × (t : List ℕ) × InRange y × AllApart (opens y) t × (list_text text k c ++ s ≡ text (k, y) ++ t)
      begins [] u z r s h sa left is = absurd (omega (arith, h.1, less))
      begins (y ∷ ys) u z r s h sa left is =
          (y, list_text text (k + 1) ys ++ s, h.0.0, after-element [] (k + 1) y ys s h.0.0 h.0.1 sa, append_assoc (text (k, y)) (list_text text (k + 1) ys) s)
