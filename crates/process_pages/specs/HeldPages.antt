-- The bytes of a page that a process has mapped.
use Rattle.std.specs.Prelude.{ℕ, Bool, true, false, List, box_value}
use Rattle.std.specs.Arc.{arc_value}
use Rattle.process_pages.specs.declared.mapped_page.HeldBytes.{HeldBytes}
use Rattle.process_pages.specs.declared.mapped_page.HeldBytes.TheVariants.{Shared, Own}

-- whoever has them
abbrev pub held_bytes : HeldBytes → List ℕ
held_bytes (Shared bytes) = arc_value bytes
held_bytes (Own bytes) = box_value bytes

-- nobody else has them
abbrev pub is_own : HeldBytes → Bool
is_own (Shared bytes) = false
is_own (Own bytes) = true
