-- Fields before the loader.
use Rattle.std.specs.Prelude.{◌≡◌, ℕ, ◌<◌, List, None, if◌then◌else◌, slice_index, find}
use Rattle.std.specs.Option.{option_map_or}
use Rattle.obj_types.specs.Location.{location_len}
use Rattle.link_model.specs.Link.{Link}
use Rattle.link_model.specs.Fixups as rules
use Rattle.link_model.specs.Value.{value_bytes}
use Rattle.link_model.specs.Mean.{fixup_covers}
use Rattle.link_model.specs.Patches.{is_patched, linked_world, patch_at}
use Rattle.link_fix.specs.declared.fixup.Fixup.{Fixup}
use Rattle.link_fix.specs.Shown.{shown}

-- Byte k of a fixup's field: of its value where it is patched, else 0.
abbrev pub field_byte : Link → rules.Fixup → ℕ → ℕ
field_byte l q k = if is_patched q then slice_index (value_bytes l (linked_world l) q) k else 0

-- A fixup that is not refused, on a location that there is.
pub record IsAccepted (q : Fixup) : Type 0 where
  pub accepted : rules.fix_refusal (shown q) ≡ None
  pub location : 0 < location_len q.loc

-- Byte x of an object: of the field of the first of these fixups that covers it, else what stood there.
abbrev pub with_fields : Link → List rules.Fixup → (ℕ → ℕ → ℕ) → ℕ → ℕ → ℕ
with_fields l qs below n x = option_map_or (patch_at l x) (find (fixup_covers n x) qs) (below n x)
