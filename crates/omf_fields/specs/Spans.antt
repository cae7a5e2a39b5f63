-- What stands between two cursors, and what it means that a form is read.
use Rattle.std.specs.Prelude.{◌≡◌, ℕ, ◌+◌, List, ◌++◌, length, Ok}
use Rattle.lx_bytes.specs.Cursor.{Cursor}
use Rattle.lx_bytes.specs.LittleEndian.{AreBytes}
use Rattle.omf_fields.specs.Fields.{Reading}
use Rattle.omf_fields.specs.Forms.{Form}

-- The bytes from the first cursor up to the second have a form.
pub record Spans (form : Form) (c d : Cursor) : Type 0 where
  pub front : List ℕ
  pub joined : c.left ≡ front ++ d.left
  pub moved : d.at ≡ c.at + length front
  pub so : form front

-- What is read has its form and a property, and what has them is read.
pub record IsReadAs {A : Type 0} (read : Cursor → Reading A) (form : A → Form) (P : A → Type 0) : Type 0 where
  pub found : (c : Cursor) (x : A) (d : Cursor) → AreBytes c.left → read c ≡ Ok (x, d) → Spans (form x) c d × P x
  pub only : (c : Cursor) (x : A) (d : Cursor) → Spans (form x) c d → P x → read c ≡ Ok (x, d)

-- Any value.
abbrev pub Free : {A : Type 0} → A → Type 0
Free x = Unit {0}
