-- Where a refusal's place is.
use Rattle.std.specs.Prelude.{ℕ, ◌+◌, ◌≤◌, length}
use Rattle.lx_bytes.specs.Cursor.{Cursor}
use Rattle.obj_types.specs.declared.refusal.OmfRefusal.{OmfRefusal}
use Rattle.obj_types.specs.declared.refusal.OmfRefusal.TheVariants.{Short, BadChecksum, UnknownType, BadIndex, BadField, DataRange, Nested, NoThread, BadLocation, NoData, FixOverlap, DataOverFix, TooMany}

abbrev pub place : OmfRefusal → ℕ
place (Short at) = at
place (BadChecksum at total) = at
place (UnknownType at ty) = at
place (BadIndex at i have) = at
place (BadField at) = at
place (DataRange at) = at
place (Nested at) = at
place (NoThread at) = at
place (BadLocation at loc) = at
place (NoData at) = at
place (FixOverlap at) = at
place (DataOverFix at) = at
place (TooMany at) = at

-- From one place to another, the last one among them.
abbrev pub IsFromTo : ℕ → ℕ → OmfRefusal → Type 0
IsFromTo low high refusal = (low ≤ place refusal) × (place refusal ≤ high)

-- In the record that begins at a place and has its contents at a cursor, its checksum byte included.
abbrev pub IsInRecord : ℕ → Cursor → OmfRefusal → Type 0
IsInRecord at c refusal = IsFromTo at (c.at + length c.left) refusal
