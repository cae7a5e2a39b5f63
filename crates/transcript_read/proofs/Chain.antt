-- Values whose words are taken one after another.
use Rattle.std.proofs.Common.{◌≡◌, ℕ, Bool, true, false, List, [], ◌∷◌, ◌++◌, Option, Some, None, refl, sym, ◌∙◌, ap, subst, append_assoc, append-nil}
use Rattle.std.specs.Prelude.{is_none, is_some}
use Rattle.std.specs.List.{AllByRecursion}
use Rattle.dump_model.specs.Words.{Tells as TellsWord}
use Rattle.transcript_read.specs.Words.{Row}
use Rattle.transcript_read.specs.Rows.{IsFront, held, has_word}
use Rattle.transcript_read.specs.Taken.{SoFar, Takes, TakesAll, Ends, Tells}

-- ---- one word

-- a word that stands next, and what it tells
pub word_takes : {A : Type 0} (text : A → List ℕ) (InRange : A → Type 0) (told : Option A) (flag : Bool) (a : A) (word : List ℕ) (old mid new : Option Row)
    → IsFront old word mid → TellsWord text InRange told word → flag ≡ is_some told → ((x : A) → told ≡ Some x → a ≡ x) → new ≡ held flag mid
    → Takes text InRange a old new
word_takes text InRange told flag a word None mid new front tells flags same after = record {
  stopped = λ _. after ∙ ap (held flag) front ∙ held_none flag;
  took = λ ws vs is _. absurd (cc (is));
  other = λ ws is _. absurd (cc (is));
}
  where
    held_none : (b : Bool) → held b None ≡ None
    held_none true = refl
    held_none false = refl
word_takes text InRange told flag a word (Some []) mid new front tells flags same after = record {
  stopped = λ is. absurd (cc (is));
  took = λ ws vs _ is. let none : new ≡ None = after ∙ ap (held flag) front ∙ held_none flag in absurd (cc (none, is));
  other = λ ws is _ b vs _ other. absurd (cc (is, other));
}
  where
    held_none : (b : Bool) → held b None ≡ None
    held_none true = refl
    held_none false = refl
word_takes {A} text InRange (Some x) flag a word (Some (v ∷ vs)) mid new front tells flags same after =
    let here : new ≡ Some vs = after ∙ ap (λ b. held b mid) flags ∙ front.1 in
    record {
      stopped = λ is. absurd (cc (is));
      took = λ ws us is then.
          let first : ws ≡ v ∷ vs = cc (is) in
          let rest : us ≡ vs = cc (here, then) in
          let it : a ≡ x = same x refl in
          (subst InRange (sym it) tells.0, first ∙ (λ i. (sym front.0 ∙ tells.1 ∙ ap text (sym it)) i ∷ sym rest i));
      other = λ ws is then. absurd (cc (here, then));
    }
word_takes text InRange None flag a word (Some (v ∷ vs)) mid new front tells flags same after =
    let here : new ≡ None = after ∙ ap (λ b. held b mid) flags in
    record {
      stopped = λ is. absurd (cc (is));
      took = λ ws us is then. absurd (cc (here, then));
      other = λ ws is _ b us hb row. let w : v ≡ text b = cc (is, row) in tells b hb (front.0 ∙ w);
    }

-- ---- one word, and those after it

-- what a reader has told at the end of a value's words
pub record Told {C : Type 0} (text : C → Row) (InRange : C → Type 0) (c : C) (s : Option Row) (told : Option C) : Type 0 where
  pub some : (b : C) → told ≡ Some b → (b ≡ c) × InRange c × (s ≡ Some (text c))
  pub none : told ≡ None → (b : C) → InRange b → s ≡ Some (text b) → ⊥

pub no_more : {C : Type 0} {c : C} {told : Option C} {s : Option Row} → Ends c told s → Told (λ _. []) (λ _. Unit {0}) c s told
no_more e = record { some = λ b is. let it = e.some b is in (it.0, tt, it.1); none = λ is b _ there. e.none is there }

pub option_cases : {A : Type 0} (P : Type 0) (o : Option A) → (o ≡ None → P) → ((x : A) → o ≡ Some x → P) → P
option_cases P None n s = n refl
option_cases P (Some x) n s = s x refl

pub one_more : {A C : Type 0} (c : C) (part : C → A) {text : A → List ℕ} {InRange : A → Type 0} {rest : C → Row} {More : C → Type 0} {old mid : Option Row} {told : Option C}
    → Takes text InRange (part c) old mid → Told rest More c mid told → Told (λ x. text (part x) ∷ rest x) (λ x. InRange (part x) × More x) c old told
one_more {A} {C} c part {text} {InRange} {rest} {More} {old} {mid} {told} first more = record {
  some = λ b is.
      let it = more.some b is in
      option_cases _ old
      (λ none. let gone = first.stopped none in absurd (cc (gone, it.2)))
      (λ ws there. let both = first.took ws (rest c) there it.2 in (it.0, (both.0, it.1), there ∙ ap (λ x. Some x) both.1));
  none = λ is b h there.
      option_cases _ mid
      (λ none. first.other (text (part b) ∷ rest b) there none (part b) (rest b) h.0 refl)
      (λ vs then.
      let both = first.took (text (part b) ∷ rest b) vs there then in
      let same : rest b ≡ vs = cc (both.1) in
      more.none is b h.1 (then ∙ ap (λ x. Some x) (sym same)));
}

-- all words that are left are one part's
pub all_left : {A C : Type 0} (c : C) (part : C → A) {text : A → Row} {InRange : A → Type 0} {old mid : Option Row} {told : Option C}
    → TakesAll text InRange (part c) old mid → Ends c told mid → Told (λ x. text (part x)) (λ x. InRange (part x)) c old told
all_left {A} {C} c part {text} {InRange} {old} {mid} {told} first e = record {
  some = λ b is.
      let it = e.some b is in
      option_cases _ old
      (λ none. let gone = first.stopped none in absurd (cc (gone, it.1)))
      (λ ws there. let both = first.took ws [] there it.1 in (it.0, both.0, there ∙ ap (λ x. Some x) both.1));
  none = λ is b h there.
      option_cases _ mid
      (λ none. first.other (text (part b)) there none (part b) h refl)
      (λ vs then.
      let both = first.took (text (part b)) vs there then in
      e.none is (then ∙ ap (λ x. Some x) both.2));
}

-- a range in other words
pub tells : {C : Type 0} {text : C → Row} {InRange : C → Type 0} {c : C} {s : Option Row} {told : Option C} → Told text InRange c s told
    → (Range : C → Type 0) → ((x : C) → InRange x → Range x) → ((x : C) → Range x → InRange x) → Tells text Range told s
tells {C} {text} {InRange} {c} {s} {told} it Range to from = record {
  some = λ a is.
      let found = it.some a is in
      (subst Range (sym found.0) (to c found.1), found.2 ∙ ap (λ x. Some (text x)) (sym found.0));
  none = λ is a h there. it.none is a (from a h) there;
}

-- a known word in front of what is told
pub known_tells : {C : Type 0} {text : C → Row} {InRange : C → Type 0} {word : List ℕ} {old mid : Option Row} {told : Option C}
    → Takes {A = Unit {0}} (λ _. word) (λ _. Unit {0}) tt old mid → Tells text InRange told mid → Tells (λ x. word ∷ text x) InRange told old
known_tells {C} {text} {InRange} {word} {old} {mid} {told} first more = record {
  some = λ a is.
      let it = more.some a is in
      option_cases _ old
      (λ none. let gone = first.stopped none in absurd (cc (gone, it.1)))
      (λ ws there. let both = first.took ws (text a) there it.1 in (it.0, there ∙ ap (λ x. Some x) both.1));
  none = λ is b h there.
      option_cases _ mid
      (λ none. first.other (word ∷ text b) there none tt (text b) tt refl)
      (λ vs then.
      let both = first.took (word ∷ text b) vs there then in
      let same : text b ≡ vs = cc (both.1) in
      more.none is b h (then ∙ ap (λ x. Some x) (sym same)));
}

-- ---- lists that are read word by word

-- no word is left, or the reader has stopped
pub nothing_left : {A : Type 0} (row : List A → Row) (InRange : A → Type 0) (items : List A) (start here : Option Row) → row [] ≡ []
    → has_word here ≡ false → SoFar row InRange items start here → TakesAll row (AllByRecursion InRange) items start here
nothing_left {A} row InRange items start here empty h so_far =
    subst (λ xs. TakesAll row (AllByRecursion InRange) xs start here) (append-nil items) (so_far [] here (by here h))
  where
    by : (s : Option Row) → has_word s ≡ false → TakesAll row (AllByRecursion InRange) [] s s
    by None h = record { stopped = λ is. is; took = λ ws vs is _. absurd (cc (is)); other = λ ws is _. absurd (cc (is)) }
    by (Some []) h = record {
      stopped = λ is. is;
      took = λ ws vs is then. (tt, cc (is, empty), cc (then));
      other = λ ws _ is. absurd (cc (is));
    }
    by (Some (w ∷ ws)) h = absurd (cc (h))

pub one_item : {A : Type 0} (text : A → List ℕ) (row : List A → Row) (InRange : A → Type 0) (a : A) (items : List A) (start here next : Option Row) → row [] ≡ []
    → ((x : A) (xs : List A) → row (x ∷ xs) ≡ text x ∷ row xs) → has_word here ≡ true → Takes text InRange a here next → SoFar row InRange items start here
    → SoFar row InRange (items ++ a ∷ []) start next
one_item {A} text row InRange a items start here next empty each some first so_far ys fin rest =
    subst (λ xs. TakesAll row (AllByRecursion InRange) xs start fin) (sym (append_assoc items (a ∷ []) ys)) (so_far (a ∷ ys) fin (by here some first))
  where
    by : (s : Option Row) → has_word s ≡ true → Takes text InRange a s next → TakesAll row (AllByRecursion InRange) (a ∷ ys) s fin
    by None some first = absurd (cc (some))
    by (Some []) some first = absurd (cc (some))
    by (Some (w ∷ ws)) some first = record {
      stopped = λ is. absurd (cc (is));
      took = λ us vs is then.
          option_cases _ next
          (λ none. let gone = rest.stopped none in absurd (cc (gone, then)))
          (λ more there.
          let one = first.took us more is there in
          let others = rest.took more vs there then in
          ((one.0, others.0), one.1 ∙ ap (λ r. text a ∷ r) others.1 ∙ sym (each a ys), others.2));
      other = λ us is then b hb row_is. not_all us is then b hb row_is;
    }
      where
        not_all : (us : Row) → Some (w ∷ ws) ≡ Some us → fin ≡ None → (b : List A) → AllByRecursion InRange b → us ≡ row b → ⊥
        not_all us is then [] hb row_is = absurd (cc (is, row_is, empty))
        not_all us is then (x ∷ b) hb row_is =
            let whole : us ≡ text x ∷ row b = row_is ∙ each x b in
            option_cases _ next
            (λ none. first.other us is none x (row b) hb.0 whole)
            (λ more there.
            let one = first.took us more is there in
            let same : more ≡ row b = cc (one.1, whole) in
            rest.other more there then b hb.1 same)

pub so_far_none : {A : Type 0} (row : List A → Row) (InRange : A → Type 0) (s : Option Row) → SoFar row InRange [] s s
so_far_none row InRange s ys fin rest = rest

-- ---- parts that are told at the end of a line

pub none_told : {A : Type 0} {text : A → Row} {InRange : A → Type 0} {told : Option A} {s : Option Row} → Tells text InRange told s → told ≡ None → Tells text InRange None s
none_told {A} {text} {InRange} {told} {s} it is = subst (λ (o : Option A). Tells text InRange o s) is it

pub told_none : {A C : Type 0} (v : C) (part : C → A) {text : A → Row} {InRange : A → Type 0} {s : Option Row} → Tells text InRange None s
    → Told (λ c. text (part c)) (λ c. InRange (part c)) v s None
told_none v part it = record { some = λ b is. absurd (cc (is)); none = λ _ b h there. it.none refl (part b) h there }

-- a reader that has stopped tells nothing
pub stopped_tells : {A : Type 0} (text : A → Row) (InRange : A → Type 0) (s : Option Row) → is_none s ≡ true → Tells text InRange None s
stopped_tells text InRange None is = record { some = λ a same. absurd (cc (same)); none = λ _ a h there. absurd (cc (there)) }
stopped_tells text InRange (Some ws) is = absurd (cc (is))

pub told_some : {A C : Type 0} (v : C) (part : C → A) {text : A → Row} {InRange : A → Type 0} {told : Option A} {s : Option Row} → Tells text InRange told s → told ≡ Some (part v)
    → Told (λ c. text (part c)) (λ c. InRange (part c)) v s (Some v)
told_some v part it is = record {
  some = λ b same. let found = it.some (part v) is in (cc (same), found.0, found.1);
  none = λ none. absurd (cc (none));
}
