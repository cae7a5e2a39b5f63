-- What is known of where COMDATs stand among those that have begun.
use Rattle.std.specs.Prelude.{◌≡◌, ℕ, ◌≤◌, List, length, position, take, bytes_eq}
use Rattle.obj_types.specs.declared.parts.BegunComdat.{BegunComdat}
use Rattle.omf_model.specs.Items.{begun_names}
use Rattle.name_table.specs.Entries.{value_named}
use Rattle.omf_data.specs.declared.begun.BegunPlaces.{BegunPlaces}

-- The COMDATs seen are the first of these, and of each name the place of the first of them is kept.
pub record HavePlaces (b : BegunPlaces) (begun : List BegunComdat) : Type 0 where
  pub seen : b.seen ≤ length begun
  pub places : (name : List ℕ) → value_named name b.places ≡ position (bytes_eq name) (begun_names (take b.seen begun))
