-- Items of a table, one after the other: what a step that reads one more says of all of them.
use Rattle.std.proofs.Common.{◌≡◌, ℕ, zero, suc, ◌<◌, ◌≤◌, Bool, true, false, cond, ltb, List, [], ◌∷◌, ◌++◌, length, take, Option, Some, None, Ok, Err, refl, sym, subst, ap, ◌∙◌, append_assoc, append-nil, arith}
use Rattle.std.proofs.lemmas.Bool.{ltb-false}
use Rattle.std.proofs.lemmas.List.{length-drop}
use Rattle.lx_bytes.specs.Cursor.{Cursor, advance}
use Rattle.lx_bytes.specs.LittleEndian.{little}
use Rattle.lx_types.specs.declared.refusal.LxRefusal.{LxRefusal}
use Rattle.lx_types.specs.declared.refusal.LxKind.TheVariants.{Short}
use Rattle.lx_model.specs.Reading.{fault, cursor, text, number, Read, ◌>>=◌, Step, Many, ends_at, faulty, with_front, front, after_item, after_step, many_from, many, whole, Shortens, OneByOne}
use Rattle.lx_model.proofs.Steps.{bind_ok, guard_ok}

-- ---- steps enough

abbrev Agree : {S A : Type 0} → Step S A → ℕ → ℕ → Type 0
Agree {S} {A} step m n = (s : S) (c : Cursor) → length c.left < m → length c.left < n → many_from step m s c ≡ many_from step n s c

agree_later : {S A : Type 0} (step : Step S A) (m n : ℕ) → Agree step m n → (d : Cursor) (o : Option (A × S)) → ((x : A × S) → o ≡ Some x → (length d.left < m) × (length d.left < n)) →
    after_item (many_from step m) d o ≡ after_item (many_from step n) d o
agree_later step m n again d None below = refl
agree_later step m n again d (Some x) below = let b = below x refl in ap (with_front x.0) (again x.1 d b.0 b.1)

agree_after : {S A : Type 0} (step : Step S A) → Shortens step → (m n : ℕ) → Agree step m n → (s : S) (c : Cursor) → length c.left < suc m → length c.left < suc n → (r : Read (Option (A × S))) → step s c ≡ r →
    after_step (many_from step m) r ≡ after_step (many_from step n) r
agree_after step h m n again s c lt lt' (Err e) is = refl
agree_after step h m n again s c lt lt' (Ok read) is =
    agree_later step m n again read.1 read.0 (λ x some.
    let same : step s c ≡ Ok (Some x, read.1) = is ∙ ap (λ (o : Option _). Ok (o, read.1)) some in
    let less = h s c read.1 x same in (omega arith, omega arith))

-- any number of steps over that of the bytes will do
enough : {S A : Type 0} (step : Step S A) → Shortens step → (m n : ℕ) → Agree step m n
unfolding many_from
enough step h zero n s c lt lt' = absurd (omega arith)
enough step h (suc m) zero s c lt lt' = absurd (omega arith)
enough step h (suc m) (suc n) s c lt lt' = agree_after step h m n (enough step h m n) s c lt lt' (step s c) refl

-- ---- one by one

pub many_ends : {S A : Type 0} (step : Step S A) (s : S) (c d : Cursor) → step s c ≡ Ok (None, d) → many step s c ≡ ends_at d
unfolding many many_from
many_ends step s c d e = ap (after_step (many_from step (length c.left))) e

pub many_fails : {S A : Type 0} (step : Step S A) (s : S) (c : Cursor) (e : LxRefusal) → step s c ≡ Err e → many step s c ≡ faulty e
unfolding many many_from
many_fails step s c e is = ap (after_step (many_from step (length c.left))) is

pub many_more : {S A : Type 0} (step : Step S A) → Shortens step → (s : S) (c d : Cursor) (x : A × S) → step s c ≡ Ok (Some x, d) → many step s c ≡ with_front x.0 (many step x.1 d)
unfolding many many_from
many_more step h s c d x e =
    ap (after_step (many_from step (length c.left))) e
    ∙ ap (with_front x.0) (let less = h s c d x e in enough step h (length c.left) (suc (length d.left)) x.1 d less (omega arith))

pub one_by_one : {S A : Type 0} (step : Step S A) → Shortens step → OneByOne step
one_by_one step h = record { shorter = h; none = many_ends step; more = many_more step h; wrong = many_fails step }

-- ---- what a loop keeps: the items so far, and what is read after them, are the whole table

pub front_none : {S A : Type 0} (step : Step S A) (s : S) (c d : Cursor) (before : List A) (all : Many A) → step s c ≡ Ok (None, d) → front before (many step s c) ≡ all → whole all ≡ Ok before
front_none {S} {A} step s c d before all e kept =
    let here : front before (many step s c) ≡ front before (ends_at d) = ap (front before) (many_ends step s c d e) in
    ap whole (sym kept ∙ here) ∙ ap (λ (xs : List A). Ok xs) (append-nil before)

pub front_wrong : {S A : Type 0} (step : Step S A) (s : S) (c : Cursor) (e : LxRefusal) (before : List A) (all : Many A) → step s c ≡ Err e → front before (many step s c) ≡ all → whole all ≡ Err e
front_wrong step s c e before all is kept = ap whole (sym kept ∙ ap (front before) (many_fails step s c e is))

pub front_more : {S A : Type 0} (step : Step S A) → Shortens step → (s : S) (c d : Cursor) (x : A × S) (before : List A) (all : Many A) → step s c ≡ Ok (Some x, d) → front before (many step s c) ≡ all →
    front (before ++ x.0 ∷ []) (many step x.1 d) ≡ all
front_more {S} {A} step h s c d x before all e kept =
    let others = many step x.1 d in
    let here : front before (many step s c) ≡ front before (with_front x.0 others) = ap (front before) (many_more step h s c d x e) in
    let same : (before ++ x.0 ∷ []) ++ others.items ≡ before ++ x.0 ∷ others.items = append_assoc before (x.0 ∷ []) others.items in
    ap (λ (xs : List A). record { items = xs; end = others.end }) same ∙ sym here ∙ kept

-- ---- tables that are read whole

-- all is read, and these bytes stand after it
abbrev pub Whole : {A : Type 0} → Many A → List A → List ℕ → Type 0
Whole m xs rest = (at : ℕ) × (m ≡ record { items = xs; end = Ok (cursor at rest) })

pub none_whole : {S A : Type 0} (step : Step S A) (s : S) (c : Cursor) (at : ℕ) (rest : List ℕ) → step s c ≡ Ok (None, cursor at rest) → Whole (many step s c) [] rest
none_whole step s c at rest e = (at, many_ends step s c (cursor at rest) e)

pub more_whole : {S A : Type 0} (step : Step S A) → Shortens step → (s : S) (c d : Cursor) (x : A × S) (xs : List A) (rest : List ℕ) → step s c ≡ Ok (Some x, d) → Whole (many step x.1 d) xs rest →
    Whole (many step s c) (x.0 ∷ xs) rest
more_whole step h s c d x xs rest e w = (w.0, many_more step h s c d x e ∙ ap (with_front x.0) w.1)

pub whole_is : {A : Type 0} (m : Many A) (xs : List A) (rest : List ℕ) → Whole m xs rest → whole m ≡ Ok xs
whole_is m xs rest w = ap whole w.1

-- ---- what holds of all that is read

-- what holds at the end of a table, at a fault, and after one more item
pub record Cases {S A : Type 0} (step : Step S A) (P : S → Cursor → Many A → Type 0) : Type 0 where
  pub none : (s : S) (c d : Cursor) → step s c ≡ Ok (None, d) → P s c (ends_at d)
  pub wrong : (s : S) (c : Cursor) (e : LxRefusal) → step s c ≡ Err e → P s c (faulty e)
  pub more : (s : S) (c d : Cursor) (x : A × S) (m : Many A) → step s c ≡ Ok (Some x, d) → P x.1 d m → P s c (with_front x.0 m)

abbrev HoldsBelow : {S A : Type 0} → Step S A → (S → Cursor → Many A → Type 0) → ℕ → Type 0
HoldsBelow {S} {A} step P n = (s : S) (c : Cursor) → length c.left < n → P s c (many_from step n s c)

holds_later : {S A : Type 0} (step : Step S A) (P : S → Cursor → Many A → Type 0) → Shortens step → Cases step P → (n : ℕ) → HoldsBelow step P n → (s : S) (c d : Cursor) (o : Option (A × S)) →
    length c.left < suc n → step s c ≡ Ok (o, d) → P s c (after_item (many_from step n) d o)
holds_later step P h cases n again s c d None lt e = cases.none s c d e
holds_later step P h cases n again s c d (Some x) lt e = let less = h s c d x e in cases.more s c d x (many_from step n x.1 d) e (again x.1 d (omega arith))

holds_after : {S A : Type 0} (step : Step S A) (P : S → Cursor → Many A → Type 0) → Shortens step → Cases step P → (n : ℕ) → HoldsBelow step P n → (s : S) (c : Cursor) (r : Read (Option (A × S))) →
    length c.left < suc n → step s c ≡ r → P s c (after_step (many_from step n) r)
holds_after step P h cases n again s c (Err e) lt is = cases.wrong s c e is
holds_after step P h cases n again s c (Ok read) lt is = holds_later step P h cases n again s c read.1 read.0 lt is

holds_from : {S A : Type 0} (step : Step S A) (P : S → Cursor → Many A → Type 0) → Shortens step → Cases step P → (n : ℕ) → HoldsBelow step P n
unfolding many_from
holds_from step P h cases zero s c lt = absurd (omega arith)
holds_from step P h cases (suc n) s c lt = holds_after step P h cases n (holds_from step P h cases n) s c (step s c) lt refl

pub many_holds : {S A : Type 0} (step : Step S A) (P : S → Cursor → Many A → Type 0) → Shortens step → Cases step P → (s : S) (c : Cursor) → P s c (many step s c)
unfolding many
many_holds step P h cases s c = holds_from step P h cases (suc (length c.left)) s c (omega arith)

-- a table that is read whole has an end
pub whole_ends : {A : Type 0} (m : Many A) (xs : List A) → whole m ≡ Ok xs → (d : Cursor) × (m.end ≡ Ok d) × (m.items ≡ xs)
whole_ends m xs e = let parts = bind_ok m.end (λ _. Ok m.items) xs e in let same : m.items ≡ xs = (let last = parts.2 in cc) in (parts.0, parts.1, same)

-- ---- what readings leave

-- a reading leaves fewer bytes than so many
abbrev pub Leaves : {A : Type 0} → ℕ → Read A → Type 0
Leaves {A} m r = (x : A) (d : Cursor) → r ≡ Ok (x, d) → length d.left < m

advanced : (n m : ℕ) (c : Cursor) → length c.left < m → length (advance n c).left < m
advanced n m c lt = omega (arith, length-drop n c.left)

pub number_leaves : (n m : ℕ) (c : Cursor) → length c.left < m → Leaves m (number n c)
number_leaves n m c lt x d e =
    let g = guard_ok (ltb (length c.left) n) (fault Short c.at) (Ok (little (take n c.left), advance n c)) (x, d) e in
    let pair : (little (take n c.left), advance n c) ≡ (x, d) = (let last = g.1 in cc) in
    subst (λ (p : ℕ × Cursor). length p.1.left < m) pair (advanced n m c lt)

pub text_leaves : (n m : ℕ) (c : Cursor) → length c.left < m → Leaves m (text n c)
text_leaves n m c lt x d e =
    let g = guard_ok (ltb (length c.left) n) (fault Short c.at) (Ok (take n c.left, advance n c)) (x, d) e in
    let pair : (take n c.left, advance n c) ≡ (x, d) = (let last = g.1 in cc) in
    subst (λ (p : List ℕ × Cursor). length p.1.left < m) pair (advanced n m c lt)

-- a number of some bytes leaves fewer than there were
pub number_takes_some : (n : ℕ) (c : Cursor) → 0 < n → Leaves (length c.left) (number n c)
number_takes_some n c some x d e =
    let g = guard_ok (ltb (length c.left) n) (fault Short c.at) (Ok (little (take n c.left), advance n c)) (x, d) e in
    let pair : (little (take n c.left), advance n c) ≡ (x, d) = (let last = g.1 in cc) in
    let long : n ≤ length c.left = ltb-false _ _ g.0 in
    let less : length (advance n c).left < length c.left = omega (arith, length-drop n c.left) in
    subst (λ (p : ℕ × Cursor). length p.1.left < length c.left) pair less

pub bind_leaves : {A B : Type 0} (m : ℕ) (r : Read A) (f : A × Cursor → Read B) → Leaves m r → ((x : A) (d : Cursor) → length d.left < m → Leaves m (f (x, d))) → Leaves m (r >>= f)
bind_leaves m r f first second x d e =
    let step = bind_ok r f (x, d) e in
    second step.0.0 step.0.1 (first step.0.0 step.0.1 step.1) x d step.2

pub done_leaves : {A : Type 0} (m : ℕ) (a : A) (c : Cursor) → length c.left < m → Leaves m (Ok (a, c))
done_leaves {A} m a c lt x d e = let pair : (a, c) ≡ (x, d) = cc in subst (λ (p : A × Cursor). length p.1.left < m) pair lt

pub err_leaves : {A : Type 0} (m : ℕ) (e : LxRefusal) → Leaves {A = A} m (Err e)
err_leaves m e x d is = absurd cc

pub cond_leaves : {A : Type 0} (m : ℕ) (b : Bool) (r s : Read A) → Leaves m r → Leaves m s → Leaves m (cond b r s)
cond_leaves m true r s h k = h
cond_leaves m false r s h k = k
