-- What is read of the records of a page.
-- "32-bit Linear eXecutable Module Format": "Fixup Record Table".
use Rattle.std.specs.Prelude.{◌≡◌, List, map, None}
use Rattle.std.specs.List.{flat_map}
use Rattle.std.specs.List.Sorted.{IsPermutation}
use Rattle.lx_types.specs.declared.fix.Fix.{Fix}
use Rattle.lx_model.specs.RecordSpelling.{fixes_written}
use Rattle.lx_model.specs.JoinedRecords.{records_for}
use Rattle.lx_fixrec.specs.Left.{Left}

-- the sources that are read
abbrev pub fixes_read : Left → List Fix
fixes_read l = map (λ p. p.1) l.items

-- What is read has no fault, and gives each of the fixups once, in the order in which the records have them.
pub record IsReadAs (fixes : List Fix) (l : Left) : Type 0 where
  pub in_order : fixes_read l ≡ flat_map fixes_written (records_for fixes)
  pub each_once : IsPermutation fixes (fixes_read l)
  pub faultless : l.end ≡ None

-- The records of a page have its fixups, and each of them once.
abbrev pub RecordsKeepFixes : Type 0
RecordsKeepFixes = (fixes : List Fix) → IsPermutation fixes (flat_map fixes_written (records_for fixes))
