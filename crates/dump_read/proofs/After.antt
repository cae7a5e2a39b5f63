-- A value that is read after another one.
use Rattle.std.proofs.Common.{◌≡◌, ℕ, Bool, true, false, List, [], ◌∷◌, ◌++◌, refl, sym, subst, ap, ◌∙◌, inl, inr, append_assoc, ◌⊎◌}
use Rattle.std.specs.Prelude.{◌&&◌, ◌||◌}
use Rattle.std.specs.List.{AllByRecursion}
use Rattle.std.proofs.lemmas.Bool.{or_parts, or_cases, and_parts}
use Rattle.dump_model.specs.Words.{no_break, IsWord}
use Rattle.dump_read.specs.Taken.{IsPiece, line_left, is_front, AllApart, is_begun, State, Took, Stops, Outcome, Reads}
use Rattle.dump_read.specs.Sequences.{opens_after}
use Rattle.dump_model.proofs.WordLaws.{no_break-append}
use Rattle.dump_read.proofs.Fronts.{append-same, all-apart, begun-part}

-- Texts of values: a text is read in one way, it has a break if it has anything, and another value's text goes on with each piece.
pub record IsForm {A : Type 0} (text : A → List ℕ) (InRange : A → Type 0) (opens : A → List (List ℕ)) : Type 0 where
  pub one : (a b : A) (r s : List ℕ) → InRange a → InRange b → AllApart (opens a) r → AllApart (opens b) s → text a ++ r ≡ text b ++ s → (a ≡ b) × (r ≡ s)
  pub broken : (a : A) → InRange a → no_break (text a) ≡ true → text a ≡ []
  pub pieces : (a : A) → InRange a → AllByRecursion IsPiece (opens a)
  pub longer : (a : A) → InRange a → AllByRecursion (λ w. (b : A) × (rest : List ℕ) × InRange b × (text b ≡ text a ++ (w ++ rest))) (opens a)

-- The texts of C in which that of a value b stands after that of a.
pub record IsSequel {A B C : Type 0} (ta : A → List ℕ) (ia : A → Type 0) (oa : A → List (List ℕ)) (tb : B → List ℕ) (ib : B → Type 0) (ob : B → List (List ℕ))
    (tc : C → List ℕ) (ic : C → Type 0) (oc : C → List (List ℕ)) (a : A) (con : B → C) (left : List ℕ) : Type 0 where
  pub into : (b : B) → ia a → ib b → ic (con b)
  pub text : (b : B) → ia a → ib b → tc (con b) ≡ ta a ++ tb b
  pub opens : (b : B) → ia a → ib b → oc (con b) ≡ opens_after (no_break (tb b)) (oa a) (ob b)
  pub back : (c : C) (r s : List ℕ) → ia a → ic c → AllApart (oa a) r → AllApart (oc c) s → ta a ++ r ≡ tc c ++ s → (b : B) × ib b × (c ≡ con b)
  pub starts : (x : A) → ia x → (c : C) × (rest : List ℕ) × ic c × (tc c ≡ ta x ++ rest)
  pub begins : (c : C) (u x r s : List ℕ) → ic c → AllApart (oc c) s → left ≡ u ++ x → u ++ (line_left x ++ r) ≡ tc c ++ s
      → (y : A) × (z : List ℕ) × ia y × AllApart (oa y) z × (tc c ++ s ≡ ta y ++ z)

flag-law : (o p g q w : Bool) (m n : Bool) → m ≡ (o && p) || g → n ≡ (m && q) || w → n ≡ (o && (p && q)) || ((g && q) || w)
flag-law o p g q w m n hm hn = hn ∙ ap (λ t. (t && q) || w) hm ∙ by o p g q w
  where
    by : (o p g q w : Bool) → (((o && p) || g) && q) || w ≡ (o && (p && q)) || ((g && q) || w)
    by true true true true w = refl
    by true true true false w = refl
    by true true false true w = refl
    by true true false false w = refl
    by true false true true w = refl
    by true false true false w = refl
    by true false false true w = refl
    by true false false false w = refl
    by false p true true w = refl
    by false p true false w = refl
    by false p false true w = refl
    by false p false false w = refl

all-append : (ps qs : List (List ℕ)) (x : List ℕ) → AllApart ps x → AllApart qs x → AllApart (ps ++ qs) x
all-append [] qs x hp hq = hq
all-append (p ∷ ps) qs x hp hq = (hp.0, all-append ps qs x hp.1 hq)

all-left : (ps qs : List (List ℕ)) (x : List ℕ) → AllApart (ps ++ qs) x → AllApart ps x
all-left [] qs x h = tt
all-left (p ∷ ps) qs x h = (h.0, all-left ps qs x h.1)

all-right : (ps qs : List (List ℕ)) (x : List ℕ) → AllApart (ps ++ qs) x → AllApart qs x
all-right [] qs x h = h
all-right (p ∷ ps) qs x h = all-right ps qs x h.1

begun-append : (ps qs : List (List ℕ)) (x : List ℕ) → is_begun (ps ++ qs) x ≡ is_begun ps x || is_begun qs x
begun-append [] qs x = refl
begun-append (p ∷ ps) qs x = by (is_front x p) (is_begun ps x) (is_begun qs x) (is_begun (ps ++ qs) x) (begun-append ps qs x)
  where
    by : (a b c d : Bool) → d ≡ b || c → a || d ≡ (a || b) || c
    by true b c d h = refl
    by false b c d h = h

pub after-right : (nothing : Bool) (ps qs : List (List ℕ)) (x : List ℕ) → AllApart (opens_after nothing ps qs) x → AllApart qs x
after-right nothing [] qs x h = h
after-right true (p ∷ ps) qs x h = all-right (p ∷ ps) qs x h
after-right false (p ∷ ps) qs x h = h

after-all : (nothing : Bool) (ps qs : List (List ℕ)) (x : List ℕ) → (nothing ≡ true → AllApart ps x) → AllApart qs x → AllApart (opens_after nothing ps qs) x
after-all nothing [] qs x hp hq = hq
after-all true (p ∷ ps) qs x hp hq = all-append (p ∷ ps) qs x (hp refl) hq
after-all false (p ∷ ps) qs x hp hq = hq

after-begun : (nothing : Bool) (ps qs : List (List ℕ)) (x : List ℕ) → is_begun (opens_after nothing ps qs) x ≡ (is_begun ps x && nothing) || is_begun qs x
after-begun true [] qs x = refl
after-begun false [] qs x = refl
after-begun true (p ∷ ps) qs x = begun-append (p ∷ ps) qs x ∙ by (is_begun (p ∷ ps) x) (is_begun qs x)
  where
    by : (a b : Bool) → a || b ≡ (a && true) || b
    by true b = refl
    by false b = refl
after-begun false (p ∷ ps) qs x = by (is_begun (p ∷ ps) x) (is_begun qs x)
  where
    by : (a b : Bool) → b ≡ (a && false) || b
    by true b = refl
    by false b = refl

module _ {A B C : Type 0} (ta : A → List ℕ) (ia : A → Type 0) (oa : A → List (List ℕ)) (tb : B → List ℕ) (ib : B → Type 0) (ob : B → List (List ℕ))
    (tc : C → List ℕ) (ic : C → Type 0) (oc : C → List (List ℕ)) where
  stop-first : (a : A) (con : B → C) (old mid new : State) → IsSequel ta ia oa tb ib ob tc ic oc a con old.left → Stops ta ia oa old mid → new ≡ mid → Stops tc ic oc old new
  stop-first a con old mid new law first same = subst (Stops tc ic oc old) (sym same) (record {
    used = first.used;
    is = first.is;
    viable =
        let v = first.viable in
        let c = law.starts v.0 v.2 in
        (c.0, v.1 ++ c.1, c.2, c.3 ∙ ap (λ xs. xs ++ c.1) v.3 ∙ append_assoc first.used v.1 c.1);
    own = first.own;
    flag = first.flag;
    begun = λ own.
        let v = first.begun own in
        let c = law.starts v.0 v.3 in (
          c.0,
          v.1,
          v.2 ++ c.1,
          c.2,
          v.4,
          c.3 ∙ ap (λ xs. xs ++ c.1) v.5 ∙ append_assoc first.used (mid.left ++ v.1 ∷ v.2) c.1 ∙ ap (λ xs. first.used ++ xs) (append_assoc mid.left (v.1 ∷ v.2) c.1),
        );
    other = λ own c r s inside apart is.
        let y = law.begins c first.used mid.left r s inside apart first.is is in
        first.other own y.0 r y.1 y.2 y.3 (is ∙ y.4);
  })

  stop-after : (a : A) (con : B → C) (old mid new : State) → IsForm ta ia oa → IsSequel ta ia oa tb ib ob tc ic oc a con old.left
      → Took ta ia oa a old mid → Stops tb ib ob mid new → Stops tc ic oc old new
  stop-after a con old mid new form law took stops = record {
    used = ta a ++ stops.used;
    is = took.is ∙ ap (λ xs. ta a ++ xs) stops.is ∙ sym (append_assoc (ta a) stops.used new.left);
    viable =
        let v = stops.viable in
        (con v.0, v.1, law.into v.0 took.range v.2, law.text v.0 took.range v.2 ∙ ap (λ xs. ta a ++ xs) v.3 ∙ sym (append_assoc (ta a) stops.used v.1));
    own = (is_begun (oa a) mid.left && no_break stops.used) || stops.own;
    flag =
        flag-law old.begun (no_break (ta a)) (is_begun (oa a) mid.left) (no_break stops.used) stops.own mid.begun new.begun took.flag stops.flag
        ∙ ap (λ t. (old.begun && t) || ((is_begun (oa a) mid.left && no_break stops.used) || stops.own)) (sym (no_break-append (ta a) stops.used));
    begun = λ own. when (or_cases (is_begun (oa a) mid.left && no_break stops.used) stops.own own);
    other = λ own c r s inside apart is.
        let flags = or_parts (is_begun (oa a) mid.left && no_break stops.used) stops.own own in
        let z = stops.used ++ (line_left new.left ++ r) in
        let left-apart : AllApart (oa a) (stops.used ++ new.left) = subst (AllApart (oa a)) stops.is took.closed in
        let flag : is_begun (oa a) (stops.used ++ new.left) && no_break stops.used ≡ false =
        subst (λ xs. is_begun (oa a) xs && no_break stops.used ≡ false) stops.is flags.0 in
        let z-apart : AllApart (oa a) z = all-apart (oa a) stops.used new.left r (form.pieces a took.range) left-apart flag in
        let e : ta a ++ z ≡ tc c ++ s = sym (append_assoc (ta a) stops.used (line_left new.left ++ r)) ∙ is in
        let b = law.back c z s took.range inside z-apart apart e in
        let con-apart : AllApart (oc (con b.0)) s = subst (λ x. AllApart (oc x) s) b.2 apart in
        let s-apart : AllApart (ob b.0) s =
        after-right (no_break (tb b.0)) (oa a) (ob b.0) s (subst (λ ps. AllApart ps s) (law.opens b.0 took.range b.1) con-apart) in
        let text : tc c ≡ ta a ++ tb b.0 = ap tc b.2 ∙ law.text b.0 took.range b.1 in
        stops.other flags.1 b.0 r s b.1 s-apart (append-same (ta a) z (tb b.0 ++ s) (e ∙ ap (λ xs. xs ++ s) text ∙ append_assoc (ta a) (tb b.0) s));
  }
    where
      Begun : Type 0
      Begun = (c : C) × (b : ℕ) × (rest : List ℕ) × ic c × IsWord new.left × (tc c ≡ (ta a ++ stops.used) ++ (new.left ++ b ∷ rest))

      when : ((is_begun (oa a) mid.left && no_break stops.used) ≡ true) ⊎ (stops.own ≡ true) → Begun
      when (inr own) =
          let v = stops.begun own in (
            con v.0,
            v.1,
            v.2,
            law.into v.0 took.range v.3,
            v.4,
            law.text v.0 took.range v.3 ∙ ap (λ xs. ta a ++ xs) v.5 ∙ sym (append_assoc (ta a) stops.used (new.left ++ v.1 ∷ v.2)),
          )
      when (inl go) =
          let parts = and_parts (is_begun (oa a) mid.left) (no_break stops.used) go in
          let part = begun-part (oa a) mid.left (λ w. (x : A) × (rest : List ℕ) × ia x × (ta x ≡ ta a ++ (w ++ rest)))
          (form.pieces a took.range) took.closed (form.longer a took.range) parts.0 in
          let x = part.3 in
          let c = law.starts x.0 x.2 in
          let word = and_parts (no_break stops.used) (no_break new.left) (sym (no_break-append stops.used new.left) ∙ ap no_break (sym stops.is) ∙ part.2) in (
            c.0,
            part.0,
            (part.1 ++ x.1) ++ c.1,
            c.2,
            word.1,
            c.3 ∙ ap (λ xs. xs ++ c.1) x.3
                ∙ ap (λ xs. (ta a ++ ((xs ++ part.0 ∷ part.1) ++ x.1)) ++ c.1) stops.is
                ∙ regroup (ta a) stops.used new.left (part.0 ∷ part.1) x.1 c.1,
          )
        where
          regroup : (t u n p q r : List ℕ) → (t ++ (((u ++ n) ++ p) ++ q)) ++ r ≡ (t ++ u) ++ (n ++ ((p ++ q) ++ r))
          regroup t u n p q r = simp append_assoc

  took-after : (a : A) (b : B) (con : B → C) (old mid new : State) → IsSequel ta ia oa tb ib ob tc ic oc a con old.left
      → ((x : B) → ib x → no_break (tb x) ≡ true → tb x ≡ [])
      → Took ta ia oa a old mid → Took tb ib ob b mid new → Took tc ic oc (con b) old new
  took-after a b con old mid new law broken first second =
      let empty : no_break (tb b) ≡ true → mid.left ≡ new.left = λ h. second.is ∙ ap (λ xs. xs ++ new.left) (broken b second.range h) in
      let text = law.text b first.range second.range in
      let opens = law.opens b first.range second.range in
      record {
        range = law.into b first.range second.range;
        is = first.is ∙ ap (λ xs. ta a ++ xs) second.is ∙ sym (append_assoc (ta a) (tb b) new.left) ∙ ap (λ xs. xs ++ new.left) (sym text);
        closed = subst (λ ps. AllApart ps new.left) (sym opens)
            (after-all (no_break (tb b)) (oa a) (ob b) new.left (λ h. subst (AllApart (oa a)) (empty h) first.closed) second.closed);
        flag =
            flag-law old.begun (no_break (ta a)) (is_begun (oa a) mid.left) (no_break (tb b)) (is_begun (ob b) new.left) mid.begun new.begun first.flag second.flag
            ∙ ap (λ t. (old.begun && t) || ((is_begun (oa a) mid.left && no_break (tb b)) || is_begun (ob b) new.left))
            (sym (no_break-append (ta a) (tb b)) ∙ ap no_break (sym text))
            ∙ ap (λ t. (old.begun && no_break (tc (con b))) || t)
            (ap (λ t. t || is_begun (ob b) new.left) (same (no_break (tb b)) empty) ∙ sym (after-begun (no_break (tb b)) (oa a) (ob b) new.left)
            ∙ ap (λ ps. is_begun ps new.left) (sym opens));
      }
    where
      same : (t : Bool) → (t ≡ true → mid.left ≡ new.left) → is_begun (oa a) mid.left && t ≡ is_begun (oa a) new.left && t
      same true e = ap (λ xs. is_begun (oa a) xs && true) (e refl)
      same false e = by (is_begun (oa a) mid.left) (is_begun (oa a) new.left)
        where
          by : (p q : Bool) → p && false ≡ q && false
          by true true = refl
          by true false = refl
          by false true = refl
          by false false = refl

  -- b is read after a, which was read
  pub reads-after : (a : A) (b : B) (con : B → C) (old mid new : State) → IsForm ta ia oa → ((x : B) → ib x → no_break (tb x) ≡ true → tb x ≡ [])
      → IsSequel ta ia oa tb ib ob tc ic oc a con old.left
      → Reads ta ia oa a old mid → Reads tb ib ob b mid new → Reads tc ic oc (con b) old new
  reads-after a b con old mid new form broken law first second = by old.stopped mid.stopped new.stopped refl refl refl first second
    where
      by : (o m n : Bool) → old.stopped ≡ o → mid.stopped ≡ m → new.stopped ≡ n → Outcome o m ta ia oa a old mid → Outcome m n tb ib ob b mid new
          → Outcome o n tc ic oc (con b) old new
      by true true n ho hm hn f s = s ∙ f
      by true false n ho hm hn f s =
          let wrong : true ≡ false = sym ho ∙ ap (λ (x : State). x.stopped) (sym f) ∙ hm in absurd cc
      by false true true ho hm hn f s = stop-first a con old mid new law f s
      by false true false ho hm hn f s =
          let wrong : true ≡ false = sym hm ∙ ap (λ (x : State). x.stopped) (sym s) ∙ hn in absurd cc
      by false false true ho hm hn f s = stop-after a con old mid new form law f s
      by false false false ho hm hn f s = took-after a b con old mid new law broken f s
