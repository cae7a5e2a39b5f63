-- What the refusal of a field means.
use Rattle.std.specs.Prelude.{◌≡◌, ◌≢◌, ℕ, List, [], ◌++◌}
use Rattle.lx_bytes.specs.Cursor.{Cursor}
use Rattle.obj_types.specs.declared.refusal.OmfRefusal.{OmfRefusal}
use Rattle.obj_types.specs.declared.refusal.OmfRefusal.TheVariants.{Short, BadIndex}
use Rattle.omf_fields.specs.Forms.{Form, index}
use Rattle.omf_fields.specs.Spans.{Spans}

-- The field that begins at the cursor passes the end: with more bytes after it, what is left would spell one.
pub record PassesEnd {A : Type 0} (form : A → Form) (c : Cursor) (refusal : OmfRefusal) : Type 0 where
  pub is : refusal ≡ Short c.at
  pub value : A
  pub missing : List ℕ
  pub some : missing ≢ []
  pub so : form value (c.left ++ missing)

-- An index is spelled at the cursor that is not allowed, where so many came before.
pub record IsNoIndex (Allowed : ℕ → Type 0) (have : ℕ) (c : Cursor) (refusal : OmfRefusal) : Type 0 where
  pub index_there : ℕ
  pub after : Cursor
  pub spelled : Spans (index index_there) c after
  pub is : refusal ≡ BadIndex c.at index_there have
  pub not_allowed : Allowed index_there → ⊥
