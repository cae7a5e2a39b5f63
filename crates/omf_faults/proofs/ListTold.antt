-- Lists of items up to the record's end fail exactly where an item does.
use Rattle.std.proofs.Common.{◌≡◌, List, length, arith, refl}
use Rattle.std.specs.Prelude.{◌↔◌, Err}
use Rattle.lx_bytes.specs.Cursor.{Cursor}
use Rattle.lx_bytes.specs.LittleEndian.{AreBytes}
use Rattle.obj_types.specs.declared.refusal.OmfRefusal.{OmfRefusal}
use Rattle.lx_types.specs.Answers.{◌>>=◌}
use Rattle.omf_fields.specs.Within.{within}
use Rattle.omf_fields.specs.Fields.{Reading, list_within, list_at}
use Rattle.omf_fields.proofs.ListLaws.{OneByte}
use Rattle.omf_fields.proofs.SpanLaws.{done}
use Rattle.omf_faults.specs.Parts.{Part, alike, WrongItem}
use Rattle.omf_faults.proofs.Told.{Judges, done_tells, after_tells}

pub list_tells : {A : Type 0} (read : Cursor → Reading A) (part : Part A) → Judges read part → OneByte part.form → (c : Cursor) (e : OmfRefusal) → AreBytes c.left → (list_at read c ≡ Err e) ↔ WrongItem part c e
unfolding list_within within
list_tells {A} read part j one c e bytes =
    after_tells (λ _. read) (alike part) (λ _. j) one (λ n _ d. list_within read n d) (λ _ d. refl) (λ n _ d. refl) (length c.left) tt c e bytes (omega arith)

pub items_tell : {A B : Type 0} (read : Cursor → Reading A) (part : Part A) → Judges read part → OneByte part.form → (c : Cursor) (g : List A → B) (e : OmfRefusal) → AreBytes c.left
    → ((list_at read c >>= λ xs. done (g xs)) ≡ Err e) ↔ WrongItem part c e
items_tell read part j one c g e bytes = done_tells (list_at read c) g e (WrongItem part c e) (list_tells read part j one c e bytes)
