-- The faults of a table, by what its step takes, reads, and refuses.
use Rattle.std.proofs.Common.{◌≡◌, ℕ, ◌+◌, List, [], ◌∷◌, ◌++◌, length, Option, Some, Ok, Err, refl, sym, subst, ap, ◌∙◌, append_assoc, arith, length-append}
use Rattle.std.specs.List.{flat_map}
use Rattle.lx_bytes.specs.Cursor.{Cursor}
use Rattle.lx_bytes.specs.LittleEndian.{AreBytes}
use Rattle.lx_types.specs.declared.refusal.LxRefusal.{LxRefusal}
use Rattle.lx_model.specs.Reading.{cursor, Step, Many, many, Shortens}
use Rattle.lx_model.specs.FaultLaws.{AllGo, known_after, FailsAfter, FaultsAre}
use Rattle.lx_model.proofs.Many.{many_fails, many_more, many_holds, Cases}
use Rattle.lx_model.proofs.Steps.{done}
use Rattle.lx_model.proofs.Takes.{Takes}

-- what an item that was read is, as it is written
pub record Taken {X : Type 0} (spelling : X → List ℕ) (Good : X → Type 0) (c d : Cursor) : Type 0 where
  pub written : X
  pub good : Good written
  pub taken : Takes c (spelling written) d

pub record Table {S A X : Type 0} (step : Step S A) (spelling : X → List ℕ) (Goes : S → X → Type 0) (next : S → X → S) (Wrong : S → Cursor → LxRefusal → Type 0) : Type 0 where
  pub shorter : Shortens step
  pub taken : (s : S) (c d : Cursor) (o : A × S) → AreBytes c.left → step s c ≡ Ok (Some o, d) → Taken spelling (Goes s) c d
  pub reads : (s : S) (x : X) → Goes s x → (at : ℕ) (rest : List ℕ) → (a : A) × (step s (cursor at (spelling x ++ rest)) ≡ Ok (Some (a, next s x), cursor (at + length (spelling x)) rest))
  pub fails : (s : S) (c : Cursor) (e : LxRefusal) → AreBytes c.left → step s c ≡ Err e → Wrong s c e
  pub failed : (s : S) (c : Cursor) (e : LxRefusal) → Wrong s c e → step s c ≡ Err e

here : (c : Cursor) → c ≡ cursor (c.at + 0) c.left
here c = let same : c.at + 0 ≡ c.at = omega arith in rw same refl

-- ---- what fails has good items before it

abbrev FailsAs : {S A X : Type 0} → (X → List ℕ) → (S → X → Type 0) → (S → X → S) → (S → Cursor → LxRefusal → Type 0) → S → Cursor → Many A → Type 0
FailsAs spelling Goes next Wrong s c m = AreBytes c.left → (e : LxRefusal) → m.end ≡ Err e → FailsAfter spelling Goes next Wrong s c e

at_once : {S X : Type 0} (spelling : X → List ℕ) (Goes : S → X → Type 0) (next : S → X → S) (Wrong : S → Cursor → LxRefusal → Type 0) (s : S) (c : Cursor) (e : LxRefusal) →
    Wrong s c e → FailsAfter spelling Goes next Wrong s c e
at_once spelling Goes next Wrong s c e wrong = record { items = []; left = c.left; go = tt; spelled = refl; wrong = subst (λ (d : Cursor). Wrong s d e) (here c) wrong }

-- after one item more
one_more : {S X : Type 0} (spelling : X → List ℕ) (Goes : S → X → Type 0) (next : S → X → S) (Wrong : S → Cursor → LxRefusal → Type 0) (s : S) (c d : Cursor) (e : LxRefusal) (x : X) →
    Goes s x → c.left ≡ spelling x ++ d.left → d.at ≡ c.at + length (spelling x) → FailsAfter spelling Goes next Wrong (next s x) d e → FailsAfter spelling Goes next Wrong s c e
one_more spelling Goes next Wrong s c d e x good parts place f =
    let rest = flat_map spelling f.items in
    let there : d.at + length rest ≡ c.at + length (spelling x ++ rest) = omega (arith, place, length-append (spelling x) rest) in
    record {
      items = x ∷ f.items;
      left = f.left;
      go = (good, f.go);
      spelled = parts ∙ ap (λ (t : List ℕ). spelling x ++ t) f.spelled ∙ sym (append_assoc (spelling x) rest f.left);
      wrong = subst (λ (at : ℕ). Wrong (known_after next (next s x) f.items) (cursor at f.left) e) there f.wrong;
    }

-- a reading by its spelling leaves this after
pub read_so : {S A : Type 0} (step : Step S A) (s : S) (c d : Cursor) (o : A × S) (bytes : List ℕ) (a : A) (t : S) →
    step s (cursor c.at (bytes ++ d.left)) ≡ Ok (Some (a, t), cursor (c.at + length bytes) d.left) → c.left ≡ bytes ++ d.left → step s c ≡ Ok (Some o, d) →
    (o.1 ≡ t) × (d.at ≡ c.at + length bytes)
read_so {S} {A} step s c d o bytes a t reads parts e =
    let at_bytes : step s c ≡ Ok (Some (a, t), cursor (c.at + length bytes) d.left) = ap (λ (l : List ℕ). step s (cursor c.at l)) parts ∙ reads in
    let both : done (Some o, d) ≡ Ok (Some (a, t), cursor (c.at + length bytes) d.left) = sym e ∙ at_bytes in
    let pair : (Some o, d) ≡ (Some (a, t), cursor (c.at + length bytes) d.left) = cc in
    let option : Some o ≡ Some (a, t) = ap (λ (p : Option (A × S) × Cursor). p.0) pair in
    let end : d ≡ cursor (c.at + length bytes) d.left = ap (λ (p : Option (A × S) × Cursor). p.1) pair in
    let item : o ≡ (a, t) = cc in
    (ap (λ (p : A × S). p.1) item, ap (λ (x : Cursor). x.at) end)

cases : {S A X : Type 0} (step : Step S A) (spelling : X → List ℕ) (Goes : S → X → Type 0) (next : S → X → S) (Wrong : S → Cursor → LxRefusal → Type 0) →
    Table step spelling Goes next Wrong → Cases step (FailsAs spelling Goes next Wrong)
cases {S} {A} {X} step spelling Goes next Wrong t = record {
  none = λ s c d e h f is. absurd cc;
  wrong = λ s c e is h f same.
      let equal : e ≡ f = cc in
      at_once spelling Goes next Wrong s c f (subst (λ (r : LxRefusal). Wrong s c r) equal (t.fails s c e h is));
  more = λ s c d o m e again h f is.
      let x = t.taken s c d o h e in
      let reads = t.reads s x.written x.good c.at d.left in
      let so = read_so step s c d o (spelling x.written) reads.0 (next s x.written) reads.1 x.taken.parts e in
      let rest = again x.taken.rest f is in
      one_more spelling Goes next Wrong s c d f x.written x.good x.taken.parts so.1 (subst (λ (k : S). FailsAfter spelling Goes next Wrong k d f) so.0 rest);
}

-- ---- what stands after good items fails

after : {S A X : Type 0} (step : Step S A) (spelling : X → List ℕ) (Goes : S → X → Type 0) (next : S → X → S) (Wrong : S → Cursor → LxRefusal → Type 0) → Table step spelling Goes next Wrong →
    (s : S) (at : ℕ) (left : List ℕ) (e : LxRefusal) (items : List X) → AllGo Goes next s items → Wrong (known_after next s items) (cursor (at + length (flat_map spelling items)) left) e →
    (many step s (cursor at (flat_map spelling items ++ left))).end ≡ Err e
after {S} {A} step spelling Goes next Wrong t s at left e [] go wrong =
    let same : at + 0 ≡ at = omega arith in
    ap (λ (m : Many A). m.end) (many_fails step s (cursor at left) e (t.failed s (cursor at left) e (subst (λ (n : ℕ). Wrong s (cursor n left) e) same wrong)))
after {S} {A} step spelling Goes next Wrong t s at left e (x ∷ items) go wrong =
    let bytes = spelling x in
    let rest = flat_map spelling items in
    let reads = t.reads s x go.0 at (rest ++ left) in
    let there : at + length (bytes ++ rest) ≡ at + length bytes + length rest = omega (arith, length-append bytes rest) in
    let again = after step spelling Goes next Wrong t (next s x) (at + length bytes) left e items go.1 (subst (λ (n : ℕ). Wrong (known_after next (next s x) items) (cursor n left) e) there wrong) in
    let first = many_more step t.shorter s (cursor at (bytes ++ (rest ++ left))) (cursor (at + length bytes) (rest ++ left)) (reads.0, next s x) reads.1 in
    ap (λ (l : List ℕ). (many step s (cursor at l)).end) (append_assoc bytes rest left) ∙ ap (λ (m : Many A). m.end) first ∙ again

pub faults_are : {S A X : Type 0} (step : Step S A) (spelling : X → List ℕ) (Goes : S → X → Type 0) (next : S → X → S) (Wrong : S → Cursor → LxRefusal → Type 0) →
    Table step spelling Goes next Wrong → FaultsAre step spelling Goes next Wrong
faults_are {S} {A} step spelling Goes next Wrong t s c e h = (
  λ is. many_holds step (FailsAs spelling Goes next Wrong) t.shorter (cases step spelling Goes next Wrong t) s c h e is,
  λ f. ap (λ (l : List ℕ). (many step s (cursor c.at l)).end) f.spelled ∙ after step spelling Goes next Wrong t s c.at f.left e f.items f.go f.wrong,
)
