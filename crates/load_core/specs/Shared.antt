-- What a write leaves of the residences that stand.
use Rattle.std.specs.Prelude.{◌≡◌, ℕ, List, [], ◌∷◌, ◌++◌, slice_set}
use Rattle.lx_types.specs.declared.object.Class.{Class}
use Rattle.lx_types.specs.declared.object.Class.TheVariants.{Code, Private, Shared}
use Rattle.load_model.specs.State.{Written, Residence}
use Rattle.write_overlay.specs.Layered.{Pages, Lays}
use Rattle.load_core.specs.declared.residence_parts.ResidenceParts.{ResidenceParts}

-- what of a write to an object of a class all share
abbrev pub shared_writes : Class → Written → List Written
shared_writes Code w = []
shared_writes Private w = []
shared_writes Shared w = w ∷ []

-- The residences stand as they did, but that these writes are laid over those before them in the one at a place.
pub record AreLaid (before after : List (Residence × ResidenceParts)) (place : ℕ) (s : Residence × ResidenceParts) (more : List Written) : Type 0 where
  pub layers : Pages
  pub over : (writes : List Written) → Lays s.1.layers writes → Lays layers (writes ++ more)
  pub stand : after ≡ slice_set before place (s.0, record s.1 { layers = layers })
