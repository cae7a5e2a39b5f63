-- The modules of a library.
use Rattle.std.proofs.Common.{◌≡◌, ℕ, true, false, List, [], ◌∷◌, ◌++◌, Ok, Err, sym, ◌∙◌}
use Rattle.lx_types.specs.declared.fail.Fail.{Fail}
use Rattle.lx_types.specs.declared.fail.Fail.TheVariants.{Said, NoMemory}
use Rattle.lx_bytes.specs.Cursor.{Cursor}
use Rattle.lx_bytes.specs.LittleEndian.{AreBytes}
use Rattle.obj_types.specs.declared.object.ObjModule.{ObjModule}
use Rattle.obj_types.specs.declared.refusal.OmfRefusal.{OmfRefusal}
use Rattle.omf_fields.specs.Onto.{onto}
use Rattle.lx_types.specs.Answers.{if_said, Gives}
use Rattle.omf_model.specs.ReadModule.{ends_library, module_at, modules_at, up_to_page}
use Rattle.omf_model.proofs.TurnLaws.{modules-next, modules-refused, modules-done}

pub modules-fail : {A C : Type 0} (v : A → ObjModule × Cursor) (w : C → List ObjModule) (fail : Fail OmfRefusal) (size : ℕ) (ms : List ObjModule) (c c0 : Cursor)
    → onto ms (modules_at size c) ≡ modules_at size c0 → AreBytes c.left → ends_library c.left ≡ false → Gives v if_said (Err fail) (module_at c) → Gives w if_said (Err fail) (modules_at size c0)
modules-fail v w (Said refusal) size ms c c0 so bytes more h = sym so ∙ modules-refused size ms c refusal bytes more h
modules-fail v w NoMemory size ms c c0 so bytes more h = tt

pub module-more : (size : ℕ) (ms now : List ObjModule) (c c0 d next : Cursor) (m : ObjModule) → onto ms (modules_at size c) ≡ modules_at size c0 → AreBytes c.left → ends_library c.left ≡ false → module_at c ≡ Ok (m, d)
    → now ≡ ms ++ m ∷ [] → next ≡ up_to_page size d → onto now (modules_at size next) ≡ modules_at size c0
module-more size ms now c c0 d next m so bytes more read added paged =
    (λ i. onto (added i) (modules_at size (paged i))) ∙ sym (modules-next size ms c m d bytes more read) ∙ so

pub modules-end : (size : ℕ) (ms : List ObjModule) (c c0 : Cursor) → onto ms (modules_at size c) ≡ modules_at size c0 → AreBytes c.left → ends_library c.left ≡ true → modules_at size c0 ≡ Ok ms
modules-end size ms c c0 so bytes end = sym so ∙ modules-done size ms c bytes end
