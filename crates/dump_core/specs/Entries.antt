-- The fixups of records.
use Rattle.std.specs.Prelude.{List, map}
use Rattle.lx_types.specs.declared.fix.Fix.{Fix}
use Rattle.lx_fixrec.specs.Left.{Left}

-- the fixups that a reader of records has left
abbrev pub fixes_left : Left → List Fix
fixes_left left = map (λ s. s.1) left.items
