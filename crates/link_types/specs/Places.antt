-- Where the segments, the communals and the groups of a link stand.
use Rattle.std.specs.Prelude.{◌≡◌, ℕ, Option, slice_get}
use Rattle.std.specs.Option.{option_map, option_and_then}
use Rattle.obj_types.specs.Items.{item}
use Rattle.link_model.specs.Link.{Link}
use Rattle.link_model.specs.Layout.{spot, common_spot}
use Rattle.link_model.specs.Goals.{object_of_group, group_name}
use Rattle.link_types.specs.declared.places.Places.{Places}

abbrev pub spot_in : Places → ℕ → ℕ → Option (ℕ × ℕ)
spot_in p n seg = option_and_then (λ row. option_and_then (λ place. place) (item row.items seg)) (item p.spots.items n)

abbrev pub common_in : Places → ℕ → Option (ℕ × ℕ)
common_in p slot = slice_get p.commons.items slot

abbrev pub group_in : Places → ℕ → ℕ → Option (Option ℕ)
group_in p n index = option_and_then (λ row. item row.items index) (item p.groups.items n)

-- These are the places of a link.
pub record ArePlaces (l : Link) (p : Places) : Type 0 where
  pub spots : (n : ℕ) (seg : ℕ) → spot_in p n seg ≡ spot l n seg
  pub commons : (slot : ℕ) → common_in p slot ≡ common_spot l slot
  pub groups : (n : ℕ) (index : ℕ) → group_in p n index ≡ option_map (object_of_group l) (group_name l n index)
