-- A module from its first record on, and an object file.
use Rattle.std.proofs.Common.{◌≡◌, ◌≢◌, ℕ, true, ◌||◌, eqb, List, Ok, Err, refl, sym, ap, subst, ◌∙◌, inl, inr}
use Rattle.std.specs.Prelude.{◌⊎◌}
use Rattle.std.proofs.lemmas.Bool.{ne_eqb}
use Rattle.lx_types.specs.declared.fail.Fail.{Fail}
use Rattle.lx_types.specs.declared.fail.Fail.TheVariants.{Said, NoMemory}
use Rattle.lx_bytes.specs.Cursor.{Cursor}
use Rattle.lx_bytes.specs.LittleEndian.{AreBytes}
use Rattle.obj_types.specs.Fresh.{fresh_parts}
use Rattle.obj_types.specs.declared.object.ObjModule.{ObjModule}
use Rattle.obj_types.specs.declared.parts.ObjParts.{ObjParts}
use Rattle.obj_types.specs.declared.refusal.OmfRefusal.{OmfRefusal}
use Rattle.obj_types.specs.declared.refusal.OmfRefusal.TheVariants.{BadField}
use Rattle.lx_types.specs.Answers.{◌>>=◌, if_said, Gives}
use Rattle.omf_fields.specs.Fields.{Reading, name_at}
use Rattle.omf_frame.specs.declared.omf_record.Rec.{Rec}
use Rattle.omf_model.specs.Add.{add}
use Rattle.omf_model.specs.Begun.{IsBegun}
use Rattle.omf_model.specs.ReadAfter.{contents_at}
use Rattle.omf_model.specs.RawRecord.{raw_at}
use Rattle.omf_model.specs.ReadModule.{header_at, module_at}
use Rattle.omf_model.proofs.BegunLaws.{begun-first}
use Rattle.omf_files.specs.Modules.{StandsAt, begun_at, finished_at}
use Rattle.omf_files.proofs.RecordRead.{module-split}

-- ---- the first record

pub begun-refused : (c : Cursor) (refusal : OmfRefusal) → raw_at c ≡ Err refusal → begun_at c ≡ Err refusal
unfolding begun_at header_at
begun-refused c refusal e = rw e refl

pub other-first : (rec : Rec) (c new : Cursor) (at : ℕ) → StandsAt rec c new → rec.ty ≢ 0x80 → rec.ty ≢ 0x82 → at ≡ c.at → begun_at c ≡ Err (BadField at)
unfolding begun_at header_at
other-first rec c new at there not_80 not_82 place = rw (there.raw, ne_eqb rec.ty 0x80 not_80, ne_eqb rec.ty 0x82 not_82) (ap (λ (k : ℕ). Err (BadField k)) (sym place))

abbrev pub IsHeader : ℕ → Type 0
IsHeader ty = ((ty ≡ 0x80 → ⊥) × (ty ≡ 0x82)) ⊎ (ty ≡ 0x80)

header-type : (ty : ℕ) → IsHeader ty → (eqb ty 0x80 || eqb ty 0x82) ≡ true
header-type ty (inl h) = rw h.1 refl
header-type ty (inr e) = rw e refl

pub name-refused : (rec : Rec) (c new d : Cursor) (refusal : OmfRefusal) → StandsAt rec c new → IsHeader rec.ty → contents_at rec.at rec.body.now ≡ d → name_at d ≡ Err refusal → begun_at c ≡ Err refusal
unfolding begun_at header_at
name-refused rec c new d refusal there kind same e =
    let named : name_at (contents_at rec.at rec.body.now) ≡ Err refusal = ap (λ (k : Cursor). name_at k) same ∙ e in
    rw (there.raw, header-type rec.ty kind, named) refl

abbrev pub named_parts : ObjParts → List ℕ → ObjParts
named_parts p text = record p { «module» = record p.module { name = text } }

pub named : (rec : Rec) (c new d e : Cursor) (text : List ℕ) → StandsAt rec c new → IsHeader rec.ty → contents_at rec.at rec.body.now ≡ d → name_at d ≡ Ok (text, e) → begun_at c ≡ Ok (named_parts fresh_parts text, new)
unfolding begun_at header_at add
named rec c new d e text there kind same read =
    let text_read : name_at (contents_at rec.at rec.body.now) ≡ Ok (text, e) = ap (λ (k : Cursor). name_at k) same ∙ read in
    rw (there.raw, header-type rec.ty kind, text_read) refl

pub parts-so : (p : ObjParts) (t text : List ℕ) (new : Cursor) → p ≡ fresh_parts → t ≡ text → (let r : Reading ObjParts = Ok (named_parts fresh_parts text, new) in r) ≡ Ok (named_parts p t, new)
parts-so p t text new a b = λ i. Ok (named_parts (sym a i) (sym b i), new)

pub begun-so : (p : ObjParts) (t text : List ℕ) → p ≡ fresh_parts → t ≡ text → IsBegun (named_parts p t)
unfolding add
begun-so p t text a b = subst IsBegun (λ i. named_parts (sym a i) (sym b i)) (begun-first text)

-- ---- the module

pub module-goes : (c : Cursor) (p : ObjParts) (d : Cursor) → AreBytes c.left → begun_at c ≡ Ok (p, d) → module_at c ≡ finished_at p d
module-goes c p d bytes e = module-split c bytes ∙ ap (λ (r : Reading ObjParts). r >>= λ b. finished_at b.0 b.1) e

pub module-fails : {A C : Type 0} (v : A → ObjParts × Cursor) (w : C → ObjModule × Cursor) (fail : Fail OmfRefusal) (c : Cursor) → AreBytes c.left → Gives v if_said (Err fail) (begun_at c) → Gives w if_said (Err fail) (module_at c)
module-fails v w (Said refusal) c bytes h = module-split c bytes ∙ ap (λ (r : Reading ObjParts). r >>= λ b. finished_at b.0 b.1) h
module-fails v w NoMemory c bytes h = tt
