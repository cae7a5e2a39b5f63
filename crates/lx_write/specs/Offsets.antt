-- Targets by name, as a file has them: with the name's offset in the import procedure table.
-- "32-bit Linear eXecutable Module Format": "Import Procedure Name Table".
use Rattle.std.specs.Prelude.{ℕ, ◌<◌, List, slice_index}
use Rattle.lx_types.specs.declared.fix.Fix.{Fix}
use Rattle.lx_types.specs.declared.fix.FixTarget.{FixTarget}
use Rattle.lx_types.specs.declared.fix.FixTarget.TheVariants.{Internal, Ordinal, Named, Own}

-- Where a target is by name, its name is one of so many.
abbrev pub NameIsThere : ℕ → FixTarget → Type 0
NameIsThere count (Internal object offset) = Unit {0}
NameIsThere count (Ordinal import ordinal) = Unit {0}
NameIsThere count (Named import k) = k < count
NameIsThere count (Own ordinal) = Unit {0}

-- The same target, where these are the offsets of names.
abbrev pub target_at : List ℕ → FixTarget → FixTarget
target_at offsets (Internal object offset) = Internal object offset
target_at offsets (Ordinal import ordinal) = Ordinal import ordinal
target_at offsets (Named import k) = Named import (slice_index offsets k)
target_at offsets (Own ordinal) = Own ordinal

abbrev pub fix_at : List ℕ → Fix → Fix
fix_at offsets f = record f { target = target_at offsets f.target }
