-- A list of the module that grows by what each item of a record's list means.
use Rattle.std.proofs.Common.{◌≡◌, ◌≢◌, List, [], ◌∷◌, ◌++◌, Ok, Err, Result, refl, sym, ap, map, ◌∙◌, append_assoc}
use Rattle.std.proofs.lemmas.List.{append-nil}
use Rattle.lx_bytes.specs.Cursor.{Cursor}
use Rattle.lx_bytes.specs.LittleEndian.{AreBytes}
use Rattle.obj_types.specs.declared.refusal.OmfRefusal.{OmfRefusal}
use Rattle.obj_types.specs.declared.parts.ObjParts.{ObjParts}
use Rattle.lx_types.specs.Answers.{◌>>=◌}
use Rattle.omf_fields.specs.Fields.{Reading, list_at}
use Rattle.omf_fields.specs.Taking.{TakesBytes}
use Rattle.omf_fields.proofs.ItemLaws.{list-none, list-next}

-- what is read, each item by what it means, after the items that are there
abbrev pub mapped : {A B : Type 0} → (A → B) → List B → Result (List A) OmfRefusal → Result (List B) OmfRefusal
mapped f items r = r >>= λ xs. Ok (items ++ map f xs)

mapped-cons : {A B : Type 0} (f : A → B) (items : List B) (x : A) (r : Result (List A) OmfRefusal) → mapped f items (r >>= λ xs. Ok (x ∷ xs)) ≡ mapped f (items ++ f x ∷ []) r
mapped-cons {A} {B} f items x (Ok xs) = ap (λ (ys : List B). Ok ys) (sym (append_assoc items (f x ∷ []) (map f xs)))
mapped-cons f items x (Err e) = refl

pub mapped-item : {A B : Type 0} (one : Cursor → Reading A) (f : A → B) → TakesBytes one → (items : List B) (c : Cursor) (x : A) (d : Cursor) → AreBytes c.left → c.left ≢ [] → one c ≡ Ok (x, d) → mapped f items (list_at one c) ≡ mapped f (items ++ f x ∷ []) (list_at one d)
mapped-item {A} {B} one f takes items c x d bytes some e =
    ap (λ (r : Result (List A) OmfRefusal). mapped f items r) (list-next one takes c bytes some ∙ rw e refl) ∙ mapped-cons f items x (list_at one d)

pub mapped-refused : {A B : Type 0} (one : Cursor → Reading A) (f : A → B) → TakesBytes one → (items : List B) (c : Cursor) (refusal : OmfRefusal) → AreBytes c.left → c.left ≢ [] → one c ≡ Err refusal → mapped f items (list_at one c) ≡ Err refusal
mapped-refused {A} {B} one f takes items c refusal bytes some e =
    let failed : Result (List A) OmfRefusal = Err refusal in
    let there : list_at one c ≡ failed = list-next one takes c bytes some ∙ rw e refl in
    ap (λ (r : Result (List A) OmfRefusal). mapped f items r) there

pub mapped-done : {A B : Type 0} (one : Cursor → Reading A) (f : A → B) (items : List B) (c : Cursor) → c.left ≡ [] → mapped f items (list_at one c) ≡ Ok items
mapped-done {A} {B} one f items c none = ap (λ (r : Result (List A) OmfRefusal). mapped f items r) (list-none one c none) ∙ ap (λ (ys : List B). Ok ys) (append-nil items)

-- ---- the list in the unfinished module

-- A list of the unfinished module, and the module with another one in its place.
pub record ListIn {B : Type 0} (get : ObjParts → List B) (set : ObjParts → List B → ObjParts) : Type 0 where
  pub got : (p : ObjParts) (xs : List B) → get (set p xs) ≡ xs
  pub twice : (p : ObjParts) (xs ys : List B) → set (set p xs) ys ≡ set p ys

-- The parts so far are the old ones with more items, and what is still to be read goes after these.
pub record SoFar {A B : Type 0} (one : Cursor → Reading A) (f : A → B) (get : ObjParts → List B) (set : ObjParts → List B → ObjParts) (start : Cursor) (old now : ObjParts) (c : Cursor) : Type 0 where
  pub others : now ≡ set old (get now)
  pub read : mapped f (get now) (list_at one c) ≡ mapped f (get old) (list_at one start)

pub one-more : {A B : Type 0} (one : Cursor → Reading A) (f : A → B) (get : ObjParts → List B) (set : ObjParts → List B → ObjParts) → TakesBytes one → ListIn get set
    → (start c d : Cursor) (old now : ObjParts) (x : A) (items : List B) → SoFar one f get set start old now c → AreBytes c.left → c.left ≢ [] → one c ≡ Ok (x, d) → items ≡ get now ++ f x ∷ []
    → SoFar one f get set start old (set now items) d
one-more {A} {B} one f get set takes is start c d old now x items so bytes some e more = record {
  others = ap (λ (p : ObjParts). set p items) so.others ∙ is.twice old (get now) items ∙ ap (λ (xs : List B). set old xs) (sym (is.got now items));
  read =
      ap (λ (xs : List B). mapped f xs (list_at one d)) (is.got now items ∙ more)
      ∙ sym (mapped-item one f takes (get now) c x d bytes some e)
      ∙ so.read;
}

abbrev pub parts_or : {B : Type 0} → (ObjParts → List B → ObjParts) → ObjParts → Result (List B) OmfRefusal → Result ObjParts OmfRefusal
parts_or set p r = r >>= λ xs. Ok (set p xs)

-- an item that is refused
pub refused : {A B : Type 0} (one : Cursor → Reading A) (f : A → B) (get : ObjParts → List B) (set : ObjParts → List B → ObjParts) → TakesBytes one
    → (start c : Cursor) (old now : ObjParts) (refusal : OmfRefusal) → SoFar one f get set start old now c → AreBytes c.left → c.left ≢ [] → one c ≡ Err refusal
    → parts_or set old (mapped f (get old) (list_at one start)) ≡ Err refusal
refused {A} {B} one f get set takes start c old now refusal so bytes some e =
    ap (λ (r : Result (List B) OmfRefusal). parts_or set old r) (sym so.read ∙ mapped-refused one f takes (get now) c refusal bytes some e)

-- the end of the record
pub done : {A B : Type 0} (one : Cursor → Reading A) (f : A → B) (get : ObjParts → List B) (set : ObjParts → List B → ObjParts)
    → (start c : Cursor) (old now : ObjParts) → SoFar one f get set start old now c → c.left ≡ []
    → parts_or set old (mapped f (get old) (list_at one start)) ≡ Ok now
done {A} {B} one f get set start c old now so none =
    ap (λ (r : Result (List B) OmfRefusal). parts_or set old r) (sym so.read ∙ mapped-done one f (get now) c none)
    ∙ ap (λ (p : ObjParts). Ok p) (sym so.others)
