-- Texts after which nothing goes on, made of smaller ones.
use Rattle.std.proofs.Common.{◌≡◌, ℕ, zero, suc, ◌<◌, Bool, true, false, List, [], ◌∷◌, ◌++◌, length, refl, sym, subst, ap, ◌∙◌, append_assoc, arith}
use Rattle.std.specs.Prelude.{◌&&◌, ◌||◌}
use Rattle.std.specs.List.{AllByRecursion}
use Rattle.std.proofs.lemmas.Bool.{both_ways, and_parts}
use Rattle.dump_model.specs.Words.{is_in_word, no_break, IsWord, IsAfter}
use Rattle.dump_read.specs.Taken.{IsPiece, State, Outcome, Reads, shut, Takes}
use Rattle.dump_read.specs.Settled.{TakesOne, piece_at}
use Rattle.dump_model.proofs.WordLaws.{same-head, no_break-append, IsWords}
use Rattle.dump_read.proofs.Fronts.{append-same}
use Rattle.dump_read.proofs.After.{IsForm, reads-after}

-- Texts of which one ends where it ends, with a blank or the end of a line.
pub record IsCode {A : Type 0} (text : A → List ℕ) (InRange : A → Type 0) : Type 0 where
  pub some : A
  pub inside : InRange some
  pub one : (a b : A) (r s : List ℕ) → InRange a → InRange b → text a ++ r ≡ text b ++ s → (a ≡ b) × (r ≡ s)
  pub ended : (a : A) → InRange a → no_break (text a) ≡ false

pub code-form : {A : Type 0} (text : A → List ℕ) (InRange : A → Type 0) → IsCode text InRange → IsForm text InRange shut
code-form text InRange code = record {
  one = λ a b r s ha hb _ _ is. code.one a b r s ha hb is;
  broken = λ a ha whole. absurd (both_ways (no_break (text a)) (code.ended a ha) whole);
  pieces = λ a ha. tt;
  longer = λ a ha. tt;
}

-- ---- words

-- one word stands in front
pub same-words : (v w r s : List ℕ) (b c : ℕ) → IsWord v → IsWord w → IsAfter b → IsAfter c → v ++ b ∷ r ≡ w ++ c ∷ s → (v ≡ w) × (b ≡ c) × (r ≡ s)
same-words [] [] r s b c hv hw hb hc is =
    let parts = same-head b c r s is in (refl, parts.0, parts.1)
same-words [] (w ∷ ws) r s b c hv hw hb hc is =
    absurd (both_ways (is_in_word w) (subst IsAfter (same-head b w r (ws ++ c ∷ s) is).0 hb) (and_parts (is_in_word w) (no_break ws) hw).0)
same-words (v ∷ vs) [] r s b c hv hw hb hc is =
    absurd (both_ways (is_in_word v) (subst IsAfter (sym (same-head v c (vs ++ b ∷ r) s is).0) hc) (and_parts (is_in_word v) (no_break vs) hv).0)
same-words (v ∷ vs) (w ∷ ws) r s b c hv hw hb hc is =
    let parts = same-head v w (vs ++ b ∷ r) (ws ++ c ∷ s) is in
    let others = same-words vs ws r s b c (and_parts (is_in_word v) (no_break vs) hv).1 (and_parts (is_in_word w) (no_break ws) hw).1 hb hc parts.1 in
    (ap (λ x. x ∷ vs) parts.0 ∙ ap (λ xs. w ∷ xs) others.0, others.1, others.2)

piece-parts : (p q r s : List ℕ) (i : IsPiece p) (j : IsPiece q) → p ++ r ≡ q ++ s → i.word ++ i.after ∷ r ≡ j.word ++ j.after ∷ s
piece-parts p q r s i j is =
    sym (append_assoc i.word (i.after ∷ []) r) ∙ ap (λ xs. xs ++ r) (sym i.is) ∙ is ∙ ap (λ xs. xs ++ s) j.is ∙ append_assoc j.word (j.after ∷ []) s

pub same-pieces : (p q r s : List ℕ) → IsPiece p → IsPiece q → p ++ r ≡ q ++ s → (p ≡ q) × (r ≡ s)
same-pieces p q r s i j is =
    let parts = same-words i.word j.word r s i.after j.after i.inside j.inside i.ends j.ends (piece-parts p q r s i j is) in
    (i.is ∙ ap (λ xs. xs ++ i.after ∷ []) parts.0 ∙ ap (λ b. j.word ++ b ∷ []) parts.1 ∙ sym j.is, parts.2)

pub piece-broken : (p : List ℕ) → IsPiece p → no_break p ≡ false
piece-broken p i = ap no_break i.is ∙ no_break-append i.word (i.after ∷ []) ∙ by (no_break i.word) (is_in_word i.after) i.ends
  where
    by : (a b : Bool) → b ≡ false → a && (b && true) ≡ false
    by true b h = rw h refl
    by false b h = refl

pub front-broken : (p q : List ℕ) → no_break p ≡ false → no_break (p ++ q) ≡ false
front-broken p q h = no_break-append p q ∙ ap (λ t. t && no_break q) h

pub word-piece : {A : Type 0} (text : A → List ℕ) (InRange : A → Type 0) (after : ℕ) → IsWords text InRange → IsAfter after → (a : A) → InRange a
    → IsPiece (text a ++ after ∷ [])
word-piece text InRange after words ends a ha = record { word = text a; after = after; inside = words.word a ha; ends = ends; is = refl }

pub code-word : {A : Type 0} (text : A → List ℕ) (InRange : A → Type 0) (after : ℕ) → IsWords text InRange → IsAfter after → IsCode (λ a. text a ++ after ∷ []) InRange
code-word text InRange after words ends = record {
  some = words.some;
  inside = words.inside;
  one = λ a b r s ha hb is.
      let parts = same-words (text a) (text b) r s after after (words.word a ha) (words.word b hb) ends ends
      (sym (append_assoc (text a) (after ∷ []) r) ∙ is ∙ append_assoc (text b) (after ∷ []) s) in
      (words.one a b ha hb parts.0, parts.2);
  ended = λ a ha. piece-broken (text a ++ after ∷ []) (word-piece text InRange after words ends a ha);
}

-- ---- a text as it stands, and another one after it

pub code-piece : (piece : List ℕ) → no_break piece ≡ false → IsCode {A = Unit {0}} (λ _. piece) (λ _. Unit {0})
code-piece piece broken = record {
  some = tt;
  inside = tt;
  one = λ a b r s ha hb is. (refl, append-same piece r s is);
  ended = λ a ha. broken;
}

pub code-then : {B : Type 0} (piece : List ℕ) (tb : B → List ℕ) (ib : B → Type 0) → no_break piece ≡ false → IsCode tb ib → IsCode (λ b. piece ++ tb b) ib
code-then piece tb ib broken code = record {
  some = code.some;
  inside = code.inside;
  one = λ a b r s ha hb is. code.one a b r s ha hb (append-same piece (tb a ++ r) (tb b ++ s) (sym (append_assoc piece (tb a) r) ∙ is ∙ append_assoc piece (tb b) s));
  ended = λ a ha. front-broken piece (tb a) broken;
}

pub read-then : {B : Type 0} (piece : List ℕ) (tb : B → List ℕ) (ib : B → Type 0) (b : B) (old mid new : State) → no_break piece ≡ false → IsCode tb ib
    → Takes piece old mid → Reads tb ib shut b mid new → Reads (λ x. piece ++ tb x) ib shut b old new
read-then {B} piece tb ib b old mid new broken code first second =
    reads-after {A = Unit {0}} (λ _. piece) (λ _. Unit {0}) shut tb ib shut (λ x. piece ++ tb x) ib shut tt b (λ x. x) old mid new
    (code-form {A = Unit {0}} (λ _. piece) (λ _. Unit {0}) (code-piece piece broken)) (code-form tb ib code).broken
    (record {
      into = λ x _ h. h;
      text = λ x _ _. refl;
      opens = λ x _ _. refl;
      back = λ c r s _ h _ _ is. (c, h, refl);
      starts = λ x _. (code.some, tb code.some, code.inside, refl);
      begins = λ c u x r s h _ _ is. (tt, tb c ++ s, tt, tt, append_assoc piece (tb c) s);
    })
    first second

-- ---- two values

pub code-pair : {A B : Type 0} (ta : A → List ℕ) (ia : A → Type 0) (tb : B → List ℕ) (ib : B → Type 0) → IsCode ta ia → IsCode tb ib
    → IsCode {A = A × B} (λ p. ta p.0 ++ tb p.1) (λ p. ia p.0 × ib p.1)
code-pair {A} {B} ta ia tb ib first second = record {
  some = (first.some, second.some);
  inside = (first.inside, second.inside);
  one = λ p q r s hp hq is.
      let fronts = first.one p.0 q.0 (tb p.1 ++ r) (tb q.1 ++ s) hp.0 hq.0 (sym (append_assoc (ta p.0) (tb p.1) r) ∙ is ∙ append_assoc (ta q.0) (tb q.1) s) in
      let others = second.one p.1 q.1 r s hp.1 hq.1 fronts.1 in
      (ap (λ (x : A). (x, p.1)) fronts.0 ∙ ap (λ (y : B). (q.0, y)) others.0, others.1);
  ended = λ p hp. front-broken (ta p.0) (tb p.1) (first.ended p.0 hp.0);
}

pub read-pair : {A B : Type 0} (ta : A → List ℕ) (ia : A → Type 0) (tb : B → List ℕ) (ib : B → Type 0) (a : A) (b : B) (old mid new : State) → IsCode ta ia → IsCode tb ib
    → Reads ta ia shut a old mid → Reads tb ib shut b mid new → Reads {A = A × B} (λ p. ta p.0 ++ tb p.1) (λ p. ia p.0 × ib p.1) shut (a, b) old new
read-pair {A} {B} ta ia tb ib a b old mid new code others first second =
    reads-after ta ia shut tb ib shut (λ (p : A × B). ta p.0 ++ tb p.1) (λ p. ia p.0 × ib p.1) shut a b (λ y. (a, y)) old mid new
    (code-form ta ia code) (code-form tb ib others).broken
    (record {
      into = λ y ha hy. (ha, hy);
      text = λ y _ _. refl;
      opens = λ y _ _. refl;
      back = λ c r s ha h _ _ is.
          let same = code.one a c.0 r (tb c.1 ++ s) ha h.0 (is ∙ append_assoc (ta c.0) (tb c.1) s) in
          (c.1, h.1, ap (λ (x : A). (x, c.1)) (sym same.0));
      starts = λ x h. ((x, others.some), tb others.some, (h, others.inside), refl);
      begins = λ c u x r s h _ _ is. (c.0, tb c.1 ++ s, h.0, tt, append_assoc (ta c.0) (tb c.1) s);
    })
    first second

-- ---- values that are made of others

pub record IsView {B C : Type 0} (tb : B → List ℕ) (ib : B → Type 0) (tc : C → List ℕ) (ic : C → Type 0) (to : B → C) : Type 0 where
  pub into : (b : B) → ib b → ic (to b)
  pub text : (b : B) → ib b → tc (to b) ≡ tb b
  pub back : (c : C) → ic c → (b : B) × ib b × (c ≡ to b)

pub code-as : {B C : Type 0} (tb : B → List ℕ) (ib : B → Type 0) (tc : C → List ℕ) (ic : C → Type 0) (to : B → C) → IsCode tb ib → IsView tb ib tc ic to → IsCode tc ic
code-as tb ib tc ic to code view = record {
  some = to code.some;
  inside = view.into code.some code.inside;
  one = λ c d r s hc hd is.
      let a = view.back c hc in
      let b = view.back d hd in
      let same = code.one a.0 b.0 r s a.1 b.1
      (ap (λ xs. xs ++ r) (sym (view.text a.0 a.1) ∙ ap tc (sym a.2)) ∙ is ∙ ap (λ xs. xs ++ s) (ap tc b.2 ∙ view.text b.0 b.1)) in
      (a.2 ∙ ap to same.0 ∙ sym b.2, same.1);
  ended = λ c hc. let b = view.back c hc in ap no_break (ap tc b.2 ∙ view.text b.0 b.1) ∙ code.ended b.0 b.1;
}

pub read-as : {B C : Type 0} (tb : B → List ℕ) (ib : B → Type 0) (tc : C → List ℕ) (ic : C → Type 0) (to : B → C) (b : B) (old new : State) → IsView tb ib tc ic to
    → Reads tb ib shut b old new → Reads tc ic shut (to b) old new
read-as {B} {C} tb ib tc ic to b old new view reads = by old.stopped new.stopped reads
  where
    by : (o n : Bool) → Outcome o n tb ib shut b old new → Outcome o n tc ic shut (to b) old new
    by true n h = h
    by false false h = record {
      range = view.into b h.range;
      is = h.is ∙ ap (λ xs. xs ++ new.left) (sym (view.text b h.range));
      closed = tt;
      flag = h.flag ∙ ap (λ xs. (old.begun && no_break xs) || false) (sym (view.text b h.range));
    }
    by false true h = record {
      used = h.used;
      is = h.is;
      viable = let v = h.viable in (to v.0, v.1, view.into v.0 v.2, view.text v.0 v.2 ∙ v.3);
      own = h.own;
      flag = h.flag;
      begun = λ own. let v = h.begun own in (to v.0, v.1, v.2, view.into v.0 v.3, v.4, view.text v.0 v.3 ∙ v.5);
      other = λ own c r s inside _ is.
          let x = view.back c inside in
          h.other own x.0 r s x.1 tt (is ∙ ap (λ xs. xs ++ s) (ap tc x.2 ∙ view.text x.0 x.1));
    }

-- ---- one of some words, and what stands after it

pub record IsChoice {C : Type 0} (pieces : List (List ℕ)) (tc : C → List ℕ) (ic : C → Type 0) (tag : C → ℕ) (rest : C → List ℕ) : Type 0 where
  pub all : AllByRecursion IsPiece pieces
  pub distinct : (j k : ℕ) → j < length pieces → k < length pieces → piece_at pieces j ≡ piece_at pieces k → j ≡ k
  pub tagged : (c : C) → ic c → (tag c < length pieces) × (tc c ≡ piece_at pieces (tag c) ++ rest c)
  pub some : (k : ℕ) → k < length pieces → (c : C) × ic c × (tag c ≡ k)

pub record IsArm {B C : Type 0} (k : ℕ) (tb : B → List ℕ) (ib : B → Type 0) (ic : C → Type 0) (tag : C → ℕ) (rest : C → List ℕ) (con : B → C) : Type 0 where
  pub into : (b : B) → ib b → ic (con b)
  pub tagged : (b : B) → ib b → (tag (con b) ≡ k) × (rest (con b) ≡ tb b)
  pub back : (c : C) → ic c → tag c ≡ k → (b : B) × ib b × (c ≡ con b)

pub piece-of : (pieces : List (List ℕ)) (k : ℕ) → AllByRecursion IsPiece pieces → k < length pieces → IsPiece (piece_at pieces k)
piece-of [] k ps lt = absurd (omega arith)
piece-of (p ∷ pieces) zero ps lt = ps.0
piece-of (p ∷ pieces) (suc k) ps lt = piece-of pieces k ps.1 (omega arith)

pub code-one : (pieces : List (List ℕ)) → AllByRecursion IsPiece pieces
    → ((j k : ℕ) → j < length pieces → k < length pieces → piece_at pieces j ≡ piece_at pieces k → j ≡ k) → 0 < length pieces
    → IsCode (piece_at pieces) (λ k. k < length pieces)
code-one pieces ps distinct any = record {
  some = 0;
  inside = any;
  one = λ j k r s hj hk is.
      let same = same-pieces (piece_at pieces j) (piece_at pieces k) r s (piece-of pieces j ps hj) (piece-of pieces k ps hk) is in
      (distinct j k hj hk same.0, same.1);
  ended = λ k hk. piece-broken (piece_at pieces k) (piece-of pieces k ps hk);
}

pub read-arm : {B C : Type 0} (pieces : List (List ℕ)) (tc : C → List ℕ) (ic : C → Type 0) (tag : C → ℕ) (rest : C → List ℕ) (k : ℕ)
    (tb : B → List ℕ) (ib : B → Type 0) (con : B → C) (b : B) (old mid new : State) → IsChoice pieces tc ic tag rest → IsArm k tb ib ic tag rest con
    → ((x : B) → ib x → no_break (tb x) ≡ true → tb x ≡ [])
    → 0 < length pieces → TakesOne pieces k old mid → Reads tb ib shut b mid new → Reads tc ic shut (con b) old new
read-arm {B} {C} pieces tc ic tag rest k tb ib con b old mid new choice arm broken any first second =
    let codes : IsCode (piece_at pieces) (λ j. j < length pieces) = code-one pieces choice.all choice.distinct any in
    reads-after (piece_at pieces) (λ j. j < length pieces) shut tb ib shut tc ic shut k b con old mid new
    (code-form (piece_at pieces) (λ j. j < length pieces) codes) broken
    (record {
      into = λ x _ h. arm.into x h;
      text = λ x _ h.
          let at = arm.tagged x h in
          (choice.tagged (con x) (arm.into x h)).1 ∙ ap (λ j. piece_at pieces j ++ rest (con x)) at.0 ∙ ap (λ xs. piece_at pieces k ++ xs) at.1;
      opens = λ x _ _. refl;
      back = λ c r s hk h _ _ is.
          let at = choice.tagged c h in
          let same = codes.one k (tag c) r (rest c ++ s) hk at.0 (is ∙ ap (λ xs. xs ++ s) at.1 ∙ append_assoc (piece_at pieces (tag c)) (rest c) s) in
          arm.back c h (sym same.0);
      starts = λ j h.
          let c = choice.some j h in
          (c.0, rest c.0, c.1, (choice.tagged c.0 c.1).1 ∙ ap (λ i. piece_at pieces i ++ rest c.0) c.2);
      begins = λ c u x r s h _ _ is.
          let at = choice.tagged c h in
          (tag c, rest c ++ s, at.0, tt, ap (λ xs. xs ++ s) at.1 ∙ append_assoc (piece_at pieces (tag c)) (rest c) s);
    })
    first second

-- two values of one arm
pub arm-one : {B C : Type 0} (k : ℕ) (tb : B → List ℕ) (ib : B → Type 0) (ic : C → Type 0) (tag : C → ℕ) (rest : C → List ℕ) (con : B → C) → IsCode tb ib
    → IsArm k tb ib ic tag rest con → (c d : C) (r s : List ℕ) → ic c → ic d → tag c ≡ k → tag d ≡ k → rest c ++ r ≡ rest d ++ s → (c ≡ d) × (r ≡ s)
arm-one k tb ib ic tag rest con code arm c d r s hc hd tc td is =
    let a = arm.back c hc tc in
    let b = arm.back d hd td in
    let same = code.one a.0 b.0 r s a.1 b.1
    (ap (λ xs. xs ++ r) (sym (arm.tagged a.0 a.1).1 ∙ ap rest (sym a.2)) ∙ is ∙ ap (λ xs. xs ++ s) (ap rest b.2 ∙ (arm.tagged b.0 b.1).1)) in
    (a.2 ∙ ap con same.0 ∙ sym b.2, same.1)

pub code-choice : {C : Type 0} (pieces : List (List ℕ)) (tc : C → List ℕ) (ic : C → Type 0) (tag : C → ℕ) (rest : C → List ℕ) → IsChoice pieces tc ic tag rest
    → 0 < length pieces
    → ((k : ℕ) → k < length pieces → (c d : C) (r s : List ℕ) → ic c → ic d → tag c ≡ k → tag d ≡ k → rest c ++ r ≡ rest d ++ s → (c ≡ d) × (r ≡ s))
    → IsCode tc ic
code-choice pieces tc ic tag rest choice any arms = record {
  some = (choice.some 0 any).0;
  inside = (choice.some 0 any).1;
  one = λ c d r s hc hd is.
      let codes : IsCode (piece_at pieces) (λ j. j < length pieces) = code-one pieces choice.all choice.distinct any in
      let at = choice.tagged c hc in
      let there = choice.tagged d hd in
      let same = codes.one (tag c) (tag d) (rest c ++ r) (rest d ++ s) at.0 there.0
      (sym (append_assoc (piece_at pieces (tag c)) (rest c) r) ∙ ap (λ xs. xs ++ r) (sym at.1) ∙ is ∙ ap (λ xs. xs ++ s) there.1
      ∙ append_assoc (piece_at pieces (tag d)) (rest d) s) in
      arms (tag d) there.0 c d r s hc hd same.0 refl same.1;
  ended = λ c hc.
      let at = choice.tagged c hc in
      ap no_break at.1 ∙ front-broken (piece_at pieces (tag c)) (rest c) (piece-broken (piece_at pieces (tag c)) (piece-of pieces (tag c) choice.all at.0));
}

-- ---- arms

pub view-arm : {B C : Type 0} (k : ℕ) (tb : B → List ℕ) (ib : B → Type 0) (ic : C → Type 0) (tag : C → ℕ) (rest : C → List ℕ) (con : B → C)
    → IsView tb ib rest (λ c. ic c × (tag c ≡ k)) con → IsArm k tb ib ic tag rest con
view-arm k tb ib ic tag rest con view = record {
  into = λ b h. (view.into b h).0;
  tagged = λ b h. ((view.into b h).1, view.text b h);
  back = λ c h e. view.back c (h, e);
}

-- a value that was read after the first word
pub read-choice : {C : Type 0} (pieces : List (List ℕ)) (tc : C → List ℕ) (ic : C → Type 0) (tag : C → ℕ) (rest : C → List ℕ) (k : ℕ) (c : C) (old mid new : State)
    → IsChoice pieces tc ic tag rest → ((x : C) → no_break (rest x) ≡ true → rest x ≡ []) → 0 < length pieces → TakesOne pieces k old mid
    → Reads rest (λ x. ic x × (tag x ≡ k)) shut c mid new → Reads tc ic shut c old new
read-choice pieces tc ic tag rest k c old mid new choice broken any first second =
    read-arm pieces tc ic tag rest k rest (λ x. ic x × (tag x ≡ k)) (λ x. x) c old mid new choice
    (record { into = λ b h. h.0; tagged = λ b h. (h.1, refl); back = λ x h e. (x, (h, e), refl) }) (λ x _ whole. broken x whole) any first second

pub nothing-reads : (s : State) → Reads {A = Unit {0}} (λ _. []) (λ _. Unit {0}) shut tt s s
nothing-reads s = by s.left s.begun s.stopped
  where
    by : (left : List ℕ) (begun stopped : Bool) → let s : State = record { left = left; begun = begun; stopped = stopped } in
        Reads {A = Unit {0}} (λ _. []) (λ _. Unit {0}) shut tt s s
    by left begun true = refl
    by left true false = record { range = tt; is = refl; closed = tt; flag = refl }
    by left false false = record { range = tt; is = refl; closed = tt; flag = refl }
