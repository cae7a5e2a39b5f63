-- An object file is the module at its first byte.
use Rattle.std.proofs.Common.{◌≡◌, ℕ, List, Ok, Err, Result, refl, sym, subst}
use Rattle.lx_types.specs.Answers.{◌>>=◌, if_said, Gives, Answers}
use Rattle.lx_types.specs.declared.fail.Fail.{Fail}
use Rattle.lx_types.specs.declared.fail.Fail.TheVariants.{Said, NoMemory}
use Rattle.lx_bytes.specs.Cursor.{Cursor}
use Rattle.lx_bytes.specs.LittleEndian.{AreBytes}
use Rattle.obj_types.specs.declared.object.ObjModule.{ObjModule}
use Rattle.obj_types.specs.declared.refusal.OmfRefusal.{OmfRefusal}
use Rattle.omf_fields.specs.Fields.{Reading}
use Rattle.omf_fields.proofs.SpanLaws.{cursor_is}
use Rattle.omf_model.specs.Object.{Obj, FirstFault}
use Rattle.omf_model.specs.ReadModule.{module_at, object_of}
use Rattle.omf_model.proofs.ModuleLaws.{object_sound, object_faults}

by_module : (r : Result ObjModule (Fail OmfRefusal)) (d : Cursor) (q : Reading ObjModule) → Gives (λ (m : ObjModule). (m, d)) if_said r q → Gives (λ (m : ObjModule). m) if_said r (q >>= λ m. Ok m.0)
by_module (Ok x) d q h = rw h refl
by_module (Err (Said refusal)) d q h = rw h refl
by_module (Err NoMemory) d q h = tt

pub object : (bytes : List ℕ) (r : Result ObjModule (Fail OmfRefusal)) (c d : Cursor) → c.at ≡ 0 → c.left ≡ bytes → Gives (λ (m : ObjModule). (m, d)) if_said r (module_at c) → Gives (λ (m : ObjModule). m) if_said r (object_of bytes)
unfolding object_of
object bytes r c d place left h =
    let P : Cursor → Type 0 = λ k. Gives (λ (m : ObjModule). (m, d)) if_said r (module_at k) in
    by_module r d (module_at (record { at = 0; left = bytes })) (subst P (sym (cursor_is c 0 bytes (sym place) (sym left))) h)

pub meant : (bytes : List ℕ) (r : Result ObjModule (Fail OmfRefusal)) → AreBytes bytes → Gives (λ (m : ObjModule). m) if_said r (object_of bytes) → Answers r (Obj bytes) (FirstFault bytes)
meant bytes (Ok m) are h = object_sound bytes m are h
meant bytes (Err (Said refusal)) are h = object_faults bytes refusal are h
meant bytes (Err NoMemory) are h = tt
