-- What indices may be, and the fields after a fix byte as the definitions see them.
use Rattle.std.specs.Prelude.{◌≡◌, ℕ, length, ◌==◌, if◌then◌else◌}
use Rattle.obj_types.specs.declared.parts.ObjParts.{ObjParts}
use Rattle.omf_fix.specs.declared.have.Have.{Have}

-- The lengths of the three lists.
pub record Counts (have : Have) (p : ObjParts) : Type 0 where
  pub segs : have.segs ≡ length p.module.segs
  pub groups : have.groups ≡ length p.module.groups
  pub exts : have.exts ≡ length p.module.exts

-- The length of a method's list.
abbrev pub count_by : Have → ℕ → ℕ
count_by have m = if m == 0 then have.segs else if m == 1 then have.groups else have.exts
