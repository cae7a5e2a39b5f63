-- One entry of the resource table.
use Rattle.std.specs.Prelude.{ℕ, ◌&&◌, Option, Some, None, if◌then◌else◌}
use Rattle.lx_types.specs.declared.parts.Parts.{Parts}
use Rattle.lx_types.specs.declared.resource.ResSpot.{ResSpot}
use Rattle.lx_model.specs.Resources.{Resource, has_key, is_in_object}

-- where the resource lies, where it has a type and an identifier and lies in an object
abbrev pub found_at : Parts → ℕ → ℕ → Resource → Option ResSpot
found_at m ty id r = if has_key ty id r && is_in_object m r.spot then Some r.spot else None
