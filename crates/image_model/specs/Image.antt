-- A written module as a value: what a file says, before any byte of it.
-- "32-bit Linear eXecutable Module Format": "LX Header" to "Non-Resident Name Table".
use Rattle.std.specs.Prelude.{ℕ, List, Option}
use Rattle.lx_types.specs.declared.object.ObjHead.{ObjHead}
use Rattle.lx_model.specs.Iterated.{Group}
use Rattle.lx_model.specs.NameTables.{Named}
use Rattle.lx_model.specs.Bundles.{Bundle}
use Rattle.lx_model.specs.RecordSpelling.{Written}

-- What a file has of a page: data as it stands, groups that are repeated, or nothing, where all of it is zeros.
pub data PageForm : Type 0 where
  plain : List ℕ → PageForm
  iterated : List Group → PageForm
  zeros : PageForm

pub record Image : Type 0 where
  pub flags : ℕ  -- the module flags
  pub start : Option (ℕ × ℕ)  -- an object and an offset
  pub stack : Option (ℕ × ℕ)
  pub auto : ℕ  -- the automatic data object, or 0
  pub heap : ℕ
  pub objects : List ObjHead
  -- the pages of all objects, and the fixup records of each
  pub pages : List PageForm
  pub records : List (List Written)
  pub residents : List Named
  pub others : List Named
  pub entries : List Bundle
  pub imports : List (List ℕ)
  pub procs : List (List ℕ)
