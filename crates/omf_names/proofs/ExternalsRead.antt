-- What EXTDEF, LEXTDEF and COMDEF records add: externals.
use Rattle.std.proofs.Common.{◌≡◌, ℕ, Bool, eqb, not, List, Ok, Err, Result, refl}
use Rattle.std.specs.Prelude.{◌⊎◌}
use Rattle.std.proofs.Common.{inl, inr}
use Rattle.obj_types.specs.declared.refusal.OmfRefusal.{OmfRefusal}
use Rattle.obj_types.specs.declared.parts.ObjParts.{ObjParts}
use Rattle.obj_types.specs.declared.symbol.Ext.{Ext}
use Rattle.lx_types.specs.Answers.{◌>>=◌}
use Rattle.omf_fields.specs.Fields.{list_at}
use Rattle.omf_frame.specs.declared.omf_record.Rec.{Rec}
use Rattle.omf_model.specs.Add.{add}
use Rattle.omf_model.specs.ReadAfter.{then_add, read_after, contents_at}
use Rattle.omf_model.specs.Items.{ext_of, com_of}
use Rattle.omf_model.specs.Record.{ExtDef, ComDef, extdef, comdef}
use Rattle.omf_model.specs.ReadNames.{ext_at, extdef_at, com_at, comdef_at}
use Rattle.omf_names.proofs.ListRead.{ListIn, mapped, parts_or}

abbrev pub exts : ObjParts → List Ext
exts p = p.module.exts

abbrev pub with_exts : ObjParts → List Ext → ObjParts
with_exts p xs = record p { «module» = record p.module { exts = xs } }

pub exts-in : ListIn exts with_exts
exts-in = record { got = λ p xs. refl; twice = λ p xs ys. refl }

externals : (local : Bool) (p : ObjParts) (r : Result (List ExtDef) OmfRefusal) → then_add p (r >>= λ defs. Ok (extdef local defs)) ≡ parts_or with_exts p (mapped (ext_of local) p.module.exts r)
unfolding add
externals local p (Ok defs) = refl
externals local p (Err e) = refl

communals : (p : ObjParts) (r : Result (List ComDef) OmfRefusal) → then_add p (r >>= λ defs. Ok (comdef defs)) ≡ parts_or with_exts p (mapped com_of p.module.exts r)
unfolding add
communals p (Ok defs) = refl
communals p (Err e) = refl

abbrev pub IsExternals : ℕ → Type 0
IsExternals ty = (ty ≡ 0x8C) ⊎ (ty ≡ 0xB4) ⊎ (ty ≡ 0xB5)

pub after : (rec : Rec) → IsExternals rec.ty → (p : ObjParts) → read_after p rec ≡ parts_or with_exts p (mapped (ext_of (not (eqb rec.ty 0x8C))) p.module.exts (list_at ext_at (contents_at rec.at rec.body.now)))
unfolding extdef_at
after rec (inl e) p = rw e (externals _ p (list_at ext_at (contents_at rec.at rec.body.now)))
after rec (inr (inl e)) p = rw e (externals _ p (list_at ext_at (contents_at rec.at rec.body.now)))
after rec (inr (inr e)) p = rw e (externals _ p (list_at ext_at (contents_at rec.at rec.body.now)))

pub after-communals : (rec : Rec) → rec.ty ≡ 0xB0 → (p : ObjParts) → read_after p rec ≡ parts_or with_exts p (mapped com_of p.module.exts (list_at com_at (contents_at rec.at rec.body.now)))
unfolding comdef_at
after-communals rec e p = rw e (communals p (list_at com_at (contents_at rec.at rec.body.now)))
