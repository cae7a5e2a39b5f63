-- A reading fails exactly where a part is wrong: step by step, and over lists.
use Rattle.std.proofs.Common.{◌≡◌, ◌≢◌, ℕ, zero, suc, ◌+◌, ◌<◌, ◌≤◌, Bool, true, false, cond, eqb, List, [], ◌∷◌, length, Some, None, Result, Ok, Err, refl, sym, ap, subst, ◌∙◌, arith, inl, inr, length-append}
use Rattle.std.specs.Prelude.{◌⊎◌, ◌↔◌}
use Rattle.std.proofs.lemmas.Bool.{ne_eqb, eqb-false, eqb-true, eq-eqb}
use Rattle.std.proofs.lemmas.List.{nil_from_length}
use Rattle.lx_bytes.specs.Cursor.{Cursor}
use Rattle.lx_bytes.specs.LittleEndian.{AreBytes}
use Rattle.obj_types.specs.declared.refusal.OmfRefusal.{OmfRefusal}
use Rattle.lx_types.specs.Answers.{◌>>=◌}
use Rattle.omf_fields.specs.Fields.{Reading, check, where_so, items_at}
use Rattle.omf_fields.specs.Forms.{Form}
use Rattle.omf_fields.proofs.SpanLaws.{Spans, bytes_after, Sound, Complete, given, done}
use Rattle.omf_fields.proofs.FieldLaws.{chosen}
use Rattle.omf_fields.proofs.ListLaws.{OneByte, present_sound, present_complete}
use Rattle.omf_model.proofs.ModuleLaws.{bind_err}
use Rattle.omf_faults.specs.Parts.{Part, PartThen, ConditionThen, Breaks, only, Items, Stand, known_after, WrongAfter, alike, WrongOf}

abbrev pub refused : {A : Type 0} → OmfRefusal → Result A OmfRefusal
refused e = Err e

-- A reading and a part: what is read is spelled so and good, what is so is read, and the reading fails with what is wrong.
pub record Judges {A : Type 0} (read : Cursor → Reading A) (part : Part A) : Type 0 where
  pub sound : Sound read part.form part.good
  pub complete : Complete read part.form part.good
  pub tells : (c : Cursor) (e : OmfRefusal) → AreBytes c.left → (read c ≡ Err e) ↔ part.wrong c e

pub ok_no_err : {A : Type 0} (x : A) (e : OmfRefusal) → done x ≡ Err e → ⊥
ok_no_err x e is = absurd cc

pub err_is : {A B : Type 0} (d e : OmfRefusal) → refused {A = A} d ≡ Err e → refused {A = B} d ≡ Err e
err_is {A} {B} d e is = let same : d ≡ e = cc in ap (λ (y : OmfRefusal). refused {A = B} y) same

pub err_bind : {A B : Type 0} (r : Result A OmfRefusal) (f : A → Result B OmfRefusal) (e : OmfRefusal) → r ≡ Err e → (r >>= f) ≡ Err e
err_bind (Ok x) f e is = absurd cc
err_bind {A} {B} (Err d) f e is = err_is {A = A} {B = B} d e is

-- ---- a part, and what is after it

good_spanned_tells : {A B : Type 0} (read : Cursor → Reading A) (part : Part A) → Judges read part → (c : Cursor) (f : A × Cursor → Result B OmfRefusal) (e : OmfRefusal) (After : A → Cursor → Type 0) → AreBytes c.left
    → ((x : A) (d : Cursor) → Spans (part.form x) c d → part.good x → AreBytes d.left → (f (x, d) ≡ Err e) ↔ After x d) → ((read c >>= f) ≡ Err e) ↔ PartThen part c e After
good_spanned_tells {A} {B} read part j c f e After bytes k = (to, from)
  where
    to : (read c >>= f) ≡ Err e → PartThen part c e After
    to is = elim (bind_err (read c) f e is) [
      | inl none ↦ inl ((j.tells c e bytes).0 none)
      | inr some ↦
          let t = j.sound c some.0.0 some.0.1 bytes some.1 in
          inr (some.0.0, some.0.1, t.0, t.1, (k some.0.0 some.0.1 t.0 t.1 (bytes_after (part.form some.0.0) c some.0.1 t.0 bytes)).0 some.2)
    ]

    from : PartThen part c e After → (read c >>= f) ≡ Err e
    from (inl w) = err_bind (read c) f e ((j.tells c e bytes).1 w)
    from (inr t) =
        let there : read c ≡ given t.0 t.1 = j.complete c t.0 t.1 t.2 t.3 in
        let rest : f (t.0, t.1) ≡ Err e = (k t.0 t.1 t.2 t.3 (bytes_after (part.form t.0) c t.1 t.2 bytes)).1 t.4 in
        ap (λ (r : Reading A). r >>= f) there ∙ rest

pub spanned_part_tells : {A B : Type 0} (read : Cursor → Reading A) (part : Part A) → Judges read part → (c : Cursor) (f : A × Cursor → Result B OmfRefusal) (e : OmfRefusal) (After : A → Cursor → Type 0) → AreBytes c.left
    → ((x : A) (d : Cursor) → Spans (part.form x) c d → AreBytes d.left → (f (x, d) ≡ Err e) ↔ After x d) → ((read c >>= f) ≡ Err e) ↔ PartThen part c e After
spanned_part_tells read part j c f e After bytes k = good_spanned_tells read part j c f e After bytes (λ x d t good b. k x d t b)

pub good_part_tells : {A B : Type 0} (read : Cursor → Reading A) (part : Part A) → Judges read part → (c : Cursor) (f : A × Cursor → Result B OmfRefusal) (e : OmfRefusal) (After : A → Cursor → Type 0) → AreBytes c.left
    → ((x : A) (d : Cursor) → part.good x → AreBytes d.left → (f (x, d) ≡ Err e) ↔ After x d) → ((read c >>= f) ≡ Err e) ↔ PartThen part c e After
good_part_tells read part j c f e After bytes k = good_spanned_tells read part j c f e After bytes (λ x d t good b. k x d good b)

pub part_tells : {A B : Type 0} (read : Cursor → Reading A) (part : Part A) → Judges read part → (c : Cursor) (f : A × Cursor → Result B OmfRefusal) (e : OmfRefusal) (After : A → Cursor → Type 0) → AreBytes c.left
    → ((x : A) (d : Cursor) → AreBytes d.left → (f (x, d) ≡ Err e) ↔ After x d) → ((read c >>= f) ≡ Err e) ↔ PartThen part c e After
part_tells read part j c f e After bytes k = good_part_tells read part j c f e After bytes (λ x d good b. k x d b)

-- a reading, and then a value of what was read
pub done_tells : {A B : Type 0} (r : Result A OmfRefusal) (g : A → B) (e : OmfRefusal) (W : Type 0) → (r ≡ Err e) ↔ W → ((r >>= λ x. done (g x)) ≡ Err e) ↔ W
done_tells r g e W k = (
  λ is. elim (bind_err r (λ x. done (g x)) e is) [ inl none ↦ k.0 none | inr some ↦ absurd (ok_no_err (g some.0) e some.2) ],
  λ w. err_bind r (λ x. done (g x)) e (k.1 w),
)

-- the last part
pub last_tells : {A B : Type 0} (read : Cursor → Reading A) (part : Part A) → Judges read part → (c : Cursor) (g : A × Cursor → B) (e : OmfRefusal) → AreBytes c.left → ((read c >>= λ x. done (g x)) ≡ Err e) ↔ part.wrong c e
last_tells read part j c g e bytes = done_tells (read c) g e (part.wrong c e) (j.tells c e bytes)

-- ---- a condition, and what is after it

pub no_truth : {X : Type 0} → false ≡ true → X
no_truth e = absurd cc

pub condition_tells : {B : Type 0} (b : Bool) (Holds : Type 0) → (b ≡ true) ↔ Holds → (refusal : OmfRefusal) (f : Unit {0} → Result B OmfRefusal) (e : OmfRefusal) (After : Type 0)
    → (Holds → (f tt ≡ Err e) ↔ After) → ((check b refusal >>= f) ≡ Err e) ↔ ConditionThen Holds refusal e After
condition_tells true Holds h refusal f e After k = (λ is. inr (h.0 refl, (k (h.0 refl)).0 is), λ w. elim w [ inl n ↦ absurd (n.0 (h.0 refl)) | inr y ↦ (k y.0).1 y.1 ])
condition_tells {B} false Holds h refusal f e After k = (
  λ is. inl (λ y. no_truth (h.1 y), (let same : refusal ≡ e = cc in sym same)),
  λ w. elim w [ inl n ↦ ap (λ (y : OmfRefusal). refused {A = B} y) (sym n.1) | inr y ↦ no_truth (h.1 y.0) ],
)

pub breaks_tells : (b : Bool) (Holds : Type 0) → (b ≡ true) ↔ Holds → (refusal e : OmfRefusal) → (check b refusal ≡ Err e) ↔ Breaks Holds refusal e
breaks_tells true Holds h refusal e = (λ is. absurd (ok_no_err tt e is), λ w. absurd (w.0 (h.0 refl)))
breaks_tells false Holds h refusal e = (λ is. (λ y. no_truth (h.1 y), (let same : refusal ≡ e = cc in sym same)), λ w. ap (λ (y : OmfRefusal). refused {A = Unit {0}} y) (sym w.1))

pub breaks_then : {B : Type 0} (b : Bool) (Holds : Type 0) → (b ≡ true) ↔ Holds → (refusal : OmfRefusal) (y : B) (e : OmfRefusal) → ((check b refusal >>= λ ok. done y) ≡ Err e) ↔ Breaks Holds refusal e
breaks_then b Holds h refusal y e = done_tells (check b refusal) (λ ok. y) e (Breaks Holds refusal e) (breaks_tells b Holds h refusal e)

-- a test that is the condition itself
pub itself : (b v : Bool) → (b ≡ v) ↔ (b ≡ v)
itself b v = (λ h. h, λ h. h)

-- ---- which of two readings

pub choose_tells : {B : Type 0} (b : Bool) (Yes No : Type 0) → (b ≡ true) ↔ Yes → (b ≡ false) ↔ No → (r s : Result B OmfRefusal) (e : OmfRefusal) (W V : Type 0) → (b ≡ true → (r ≡ Err e) ↔ W) → (b ≡ false → (s ≡ Err e) ↔ V)
    → (cond b r s ≡ Err e) ↔ ((Yes × W) ⊎ (No × V))
choose_tells true Yes No y n r s e W V k l = (λ is. inl (y.0 refl, (k refl).0 is), λ w. elim w [ inl h ↦ (k refl).1 h.1 | inr h ↦ (let both : true ≡ false = n.1 h.0 in absurd cc) ])
choose_tells false Yes No y n r s e W V k l = (λ is. inr (n.0 refl, (l refl).0 is), λ w. elim w [ inl h ↦ no_truth (y.1 h.0) | inr h ↦ (l refl).1 h.1 ])

-- by a number that is one of two, or any other
pub either_tells : {B : Type 0} (n a b : ℕ) → a ≢ b → (r s : Result B OmfRefusal) (y : B) (e : OmfRefusal) (W V : Type 0) → (r ≡ Err e) ↔ W → (s ≡ Err e) ↔ V
    → (cond (eqb n a) r (cond (eqb n b) s (done y)) ≡ Err e) ↔ (((n ≡ a) × W) ⊎ ((n ≡ b) × V))
either_tells {B} n a b apart r s y e W V k l = (to, from)
  where
    to : cond (eqb n a) r (cond (eqb n b) s (done y)) ≡ Err e → ((n ≡ a) × W) ⊎ ((n ≡ b) × V)
    to is = elim (chosen (eqb n a) r (cond (eqb n b) s (done y)) (Err e) is) [
      | inl h ↦ inl (eqb-true _ _ h.0, k.0 h.1)
      | inr h ↦ elim (chosen (eqb n b) s (done y) (Err e) h.1) [
        | inl i ↦ inr (eqb-true _ _ i.0, l.0 i.1)
        | inr i ↦ absurd (ok_no_err y e i.1)
      ]
    ]

    from : ((n ≡ a) × W) ⊎ ((n ≡ b) × V) → cond (eqb n a) r (cond (eqb n b) s (done y)) ≡ Err e
    from (inl h) = ap (λ (t : Bool). cond t r (cond (eqb n b) s (done y))) (eq-eqb n a h.0) ∙ k.1 h.1
    from (inr h) =
        ap (λ (t : Bool). cond t r (cond (eqb n b) s (done y))) (ne_eqb n a (λ same. apart (sym same ∙ h.0)))
        ∙ ap (λ (t : Bool). cond t s (done y)) (eq-eqb n b h.0) ∙ l.1 h.1

-- ---- in some cases only

pub only_judges : {A : Type 0} (there : Bool) (read : Cursor → Reading A) (part : Part A) → Judges read part → Judges (where_so there read) (only there part)
only_judges {A} true read part j = record {
  sound = present_sound true read part.form part.good j.sound;
  complete = present_complete true read part.form part.good j.complete;
  tells = λ c e bytes.
      let k = last_tells read part j c (λ x. (Some x.0, x.1)) e bytes in
      (λ is. (refl, k.0 is), λ w. k.1 w.1);
}
only_judges {A} false read part j = record {
  sound = present_sound false read part.form part.good j.sound;
  complete = present_complete false read part.form part.good j.complete;
  tells = λ c e bytes. (λ is. absurd (ok_no_err (None, c) e is), λ w. no_truth w.0);
}

-- ---- lists up to the end

length_after : (form : Form) (c d : Cursor) (t : Spans form c d) → length c.left ≡ length t.front + length d.left
length_after form c d t = ap (λ (ys : List ℕ). length ys) t.joined ∙ length-append t.front d.left

-- an item by what is known where it begins
abbrev pub item_at : {S A : Type 0} → Items S A → S → Part A
item_at items s = record { form = items.form; good = items.good s; wrong = items.wrong s }

module _ {S A : Type 0} (read : S → Cursor → Reading A) (items : Items S A) (judges : (s : S) → Judges (read s) (item_at items s)) (one : OneByte items.form) (list : ℕ → S → Cursor → Result (List A) OmfRefusal)
    (ended : (s : S) (c : Cursor) → list zero s c ≡ Ok [])
    (turn : (n : ℕ) (s : S) (c : Cursor) → list (suc n) s c ≡ cond (eqb (length c.left) 0) (Ok []) (read s c >>= λ first. list n (items.next s first.0) first.1 >>= λ others. Ok (first.0 ∷ others))) where
  rest_of : ℕ → S → A × Cursor → Result (List A) OmfRefusal
  rest_of n s first = list n (items.next s first.0) first.1 >>= λ others. Ok (first.0 ∷ others)

  found : (n : ℕ) (s : S) (c : Cursor) (e : OmfRefusal) → AreBytes c.left → length c.left ≤ n → list n s c ≡ Err e → WrongAfter items s c e
  unfolding rest_of
  found zero s c e bytes few is = absurd (ok_no_err [] e (sym (ended s c) ∙ is))
  found (suc n) s c e bytes few is =
      elim (chosen (eqb (length c.left) 0) (done []) (read s c >>= rest_of n s) (Err e) (sym (turn n s c) ∙ is)) [
        | inl h ↦ absurd (ok_no_err [] e h.1)
        | inr h ↦ elim (bind_err (read s c) (rest_of n s) e h.1) [
          | inl none ↦ record {
            those = [];
            there = c;
            stand = refl;
            some_left = λ empty. eqb-false _ _ h.0 (ap (λ (ys : List ℕ). length ys) empty);
            wrong = ((judges s).tells c e bytes).0 none;
          }
          | inr x ↦
              let t = (judges s).sound c x.0.0 x.0.1 bytes x.1 in
              elim (bind_err (list n (items.next s x.0.0) x.0.1) (λ others. done (x.0.0 ∷ others)) e x.2) [
                | inl later ↦
                    let w = found n (items.next s x.0.0) x.0.1 e (bytes_after (items.form x.0.0) c x.0.1 t.0 bytes) (omega (arith, few, length_after (items.form x.0.0) c x.0.1 t.0, one x.0.0 t.0.front t.0.so)) later in
                    record { those = x.0.0 ∷ w.those; there = w.there; stand = (x.0.1, t.0, t.1, w.stand); some_left = w.some_left; wrong = w.wrong }
                | inr good ↦ absurd (ok_no_err (x.0.0 ∷ good.0) e good.2)
              ]
        ]
      ]

  shown : (those : List A) (n : ℕ) (s : S) (c d : Cursor) (e : OmfRefusal) → AreBytes c.left → length c.left ≤ n → Stand items s those c d → d.left ≢ [] → items.wrong (known_after items s those) d e → list n s c ≡ Err e
  unfolding rest_of
  shown [] zero s c d e bytes few stand some wrong = absurd (some (sym (ap (λ (k : Cursor). k.left) stand) ∙ nil_from_length c.left (omega (arith, few))))
  shown [] (suc n) s c d e bytes few stand some wrong =
      let filled : eqb (length c.left) 0 ≡ false = ne_eqb _ _ (λ none. some (sym (ap (λ (k : Cursor). k.left) stand) ∙ nil_from_length c.left none)) in
      let fails : read s c ≡ Err e = ((judges s).tells c e bytes).1 (subst (λ (k : Cursor). items.wrong s k e) (sym stand) wrong) in
      turn n s c ∙ ap (λ (b : Bool). cond b (Ok []) (read s c >>= rest_of n s)) filled ∙ err_bind (read s c) (rest_of n s) e fails
  shown (x ∷ those) zero s c d e bytes few stand some wrong =
      absurd (omega (arith, few, length_after (items.form x) c stand.0 stand.1, one x stand.1.front stand.1.so))
  shown (x ∷ those) (suc n) s c d e bytes few stand some wrong =
      let m : Cursor = stand.0 in
      let long = length_after (items.form x) c m stand.1 in
      let grows = one x stand.1.front stand.1.so in
      let filled : eqb (length c.left) 0 ≡ false = ne_eqb _ _ (λ none. omega (arith, none, long, grows)) in
      let there : read s c ≡ given x m = (judges s).complete c x m stand.1 stand.2 in
      let later = shown those n (items.next s x) m d e (bytes_after (items.form x) c m stand.1 bytes) (omega (arith, few, long, grows)) stand.3 some wrong in
      turn n s c ∙ ap (λ (b : Bool). cond b (Ok []) (read s c >>= rest_of n s)) filled ∙ ap (λ (r : Reading A). r >>= rest_of n s) there ∙ err_bind (list n (items.next s x) m) (λ others. done (x ∷ others)) e later

  pub after_tells : (n : ℕ) (s : S) (c : Cursor) (e : OmfRefusal) → AreBytes c.left → length c.left ≤ n → (list n s c ≡ Err e) ↔ WrongAfter items s c e
  after_tells n s c e bytes few = (found n s c e bytes few, λ w. shown w.those n s c w.there e bytes few w.stand w.some_left w.wrong)

-- ---- so many items

module _ {A : Type 0} (read : Cursor → Reading A) (part : Part A) (judges : Judges read part) where
  abbrev Standing : List A → Cursor → Cursor → Type 0
  Standing those c d = Stand (alike part) tt those c d

  of_found : (n : ℕ) (c : Cursor) (e : OmfRefusal) → AreBytes c.left → items_at read n c ≡ Err e → WrongOf part n c e
  unfolding items_at
  of_found zero c e bytes is = absurd (ok_no_err ([], c) e is)
  of_found (suc n) c e bytes is =
      let step : A × Cursor → Reading (List A) = λ first. items_at read n first.1 >>= λ others. Ok (first.0 ∷ others.0, others.1) in
      elim (bind_err (read c) step e is) [
        | inl none ↦ record { those = []; there = c; stand = refl; fewer = omega arith; wrong = (judges.tells c e bytes).0 none }
        | inr x ↦
            let t = judges.sound c x.0.0 x.0.1 bytes x.1 in
            elim (bind_err (items_at read n x.0.1) (λ others. given (x.0.0 ∷ others.0) others.1) e x.2) [
              | inl later ↦
                  let w = of_found n x.0.1 e (bytes_after (part.form x.0.0) c x.0.1 t.0 bytes) later in
                  let fewer = w.fewer in
                  record { those = x.0.0 ∷ w.those; there = w.there; stand = (x.0.1, t.0, t.1, w.stand); fewer = omega (arith, fewer); wrong = w.wrong }
              | inr good ↦ absurd (ok_no_err (x.0.0 ∷ good.0.0, good.0.1) e good.2)
            ]
      ]

  of_shown : (those : List A) (n : ℕ) (c d : Cursor) (e : OmfRefusal) → AreBytes c.left → Standing those c d → length those < n → part.wrong d e → items_at read n c ≡ Err e
  unfolding items_at
  of_shown those zero c d e bytes stand fewer wrong = absurd (omega (arith, fewer))
  of_shown [] (suc n) c d e bytes stand fewer wrong =
      err_bind (read c) (λ first. items_at read n first.1 >>= λ others. Ok (first.0 ∷ others.0, others.1)) e ((judges.tells c e bytes).1 (subst (λ (k : Cursor). part.wrong k e) (sym stand) wrong))
  of_shown (x ∷ those) (suc n) c d e bytes stand fewer wrong =
      let m : Cursor = stand.0 in
      let there : read c ≡ given x m = judges.complete c x m stand.1 stand.2 in
      let later = of_shown those n m d e (bytes_after (part.form x) c m stand.1 bytes) stand.3 (omega (arith, fewer)) wrong in
      ap (λ (r : Reading A). r >>= λ first. items_at read n first.1 >>= λ others. Ok (first.0 ∷ others.0, others.1)) there ∙ err_bind (items_at read n m) (λ others. given (x ∷ others.0) others.1) e later

  pub of_tells : (n : ℕ) (c : Cursor) (e : OmfRefusal) → AreBytes c.left → (items_at read n c ≡ Err e) ↔ WrongOf part n c e
  of_tells n c e bytes = (of_found n c e bytes, λ w. of_shown w.those n c w.there e bytes w.stand w.fewer w.wrong)
