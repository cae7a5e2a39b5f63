-- The names that are added one after another are those of the record.
use Rattle.std.proofs.Common.{◌≡◌, ◌≢◌, ℕ, List, [], ◌∷◌, ◌++◌, Ok, Err, Result, refl, sym, ap, ◌∙◌}
use Rattle.lx_bytes.specs.Cursor.{Cursor}
use Rattle.lx_bytes.specs.LittleEndian.{AreBytes}
use Rattle.obj_types.specs.declared.refusal.OmfRefusal.{OmfRefusal}
use Rattle.obj_types.specs.declared.parts.ObjParts.{ObjParts}
use Rattle.lx_types.specs.Answers.{◌>>=◌}
use Rattle.omf_fields.specs.Fields.{name_at, list_at}
use Rattle.omf_fields.specs.Onto.{onto}
use Rattle.omf_fields.proofs.ItemLaws.{onto-item, onto-refused, onto-done, names-take}
use Rattle.omf_frame.specs.declared.omf_record.Rec.{Rec}
use Rattle.omf_model.specs.Record.{lnames}
use Rattle.omf_model.specs.Add.{add}
use Rattle.omf_model.specs.ReadNames.{lnames_at}
use Rattle.omf_model.specs.ReadAfter.{then_add, read_after, contents_at}

-- The parts so far are the old ones with more names, and the names that are still to be read go after these.
pub record NamesSoFar (start : Cursor) (old now : ObjParts) (c : Cursor) : Type 0 where
  pub others : now ≡ record old { names = now.names }
  pub read : onto now.names (list_at name_at c) ≡ onto old.names (list_at name_at start)

-- with its names on
with_names : ObjParts → List (List ℕ) → ObjParts
with_names p names = record p { names = names }

-- what the record adds, by the list of names
lnames-onto : (p : ObjParts) (r : Result (List (List ℕ)) OmfRefusal) → then_add p (r >>= λ names. Ok (lnames names)) ≡ (onto p.names r >>= λ names. Ok (with_names p names))
unfolding add with_names
lnames-onto p (Ok names) = refl
lnames-onto p (Err e) = refl

after : (rec : Rec) → rec.ty ≡ 0x96 → (p : ObjParts) → read_after p rec ≡ (onto p.names (list_at name_at (contents_at rec.at rec.body.now)) >>= λ names. Ok (with_names p names))
unfolding lnames_at
after rec kind p = rw kind (lnames-onto p (list_at name_at (contents_at rec.at rec.body.now)))

-- a name more
pub one-more : (start c d : Cursor) (old now : ObjParts) (name : List ℕ) (names : List (List ℕ)) → NamesSoFar start old now c → AreBytes c.left → c.left ≢ [] → name_at c ≡ Ok (name, d) → names ≡ now.names ++ name ∷ []
    → NamesSoFar start old (record now { names = names }) d
one-more start c d old now name names so bytes some e more = record {
  others = ap (λ (p : ObjParts). record p { names = names }) so.others;
  read = ap (λ (ns : List (List ℕ)). onto ns (list_at name_at d)) more ∙ sym (onto-item name_at names-take now.names c name d bytes some e) ∙ so.read;
}

abbrev parts_or : Result (List (List ℕ)) OmfRefusal → ObjParts → Result ObjParts OmfRefusal
parts_or r p = r >>= λ names. Ok (with_names p names)

-- a name that is refused
pub refused : (rec : Rec) (old now : ObjParts) (c : Cursor) (refusal : OmfRefusal) → rec.ty ≡ 0x96 → NamesSoFar (contents_at rec.at rec.body.now) old now c → AreBytes c.left → c.left ≢ [] → name_at c ≡ Err refusal
    → read_after old rec ≡ Err refusal
refused rec old now c refusal kind so bytes some e =
    after rec kind old
    ∙ ap (λ (r : Result (List (List ℕ)) OmfRefusal). parts_or r old) (sym so.read ∙ onto-refused name_at names-take now.names c refusal bytes some e)

-- the end of the record
pub done : (rec : Rec) (old now : ObjParts) (c : Cursor) → rec.ty ≡ 0x96 → NamesSoFar (contents_at rec.at rec.body.now) old now c → c.left ≡ [] → read_after old rec ≡ Ok now
unfolding with_names
done rec old now c kind so none =
    after rec kind old
    ∙ ap (λ (r : Result (List (List ℕ)) OmfRefusal). parts_or r old) (sym so.read ∙ onto-done name_at now.names c none)
    ∙ ap (λ (p : ObjParts). Ok p) (sym so.others)
