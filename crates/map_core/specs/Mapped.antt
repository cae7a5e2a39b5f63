-- What the map of an input is.
use Rattle.std.specs.Prelude.{◌≡◌, ℕ, List, None}
use Rattle.obj_types.specs.declared.input.LinkInput.{LinkInput}
use Rattle.link_model.specs.Link.{Link, IsLinkOf}
use Rattle.link_model.specs.Refusal.{link_refusal}
use Rattle.image_model.specs.Linked.{called}
use Rattle.map_model.specs.Maps.{IsMap}

-- The input's link is accepted, and this is its map, under the module's name.
pub record IsMapped (input : LinkInput) (text : List ℕ) : Type 0 where
  pub link : Link
  pub of_input : IsLinkOf input link
  pub accepted : link_refusal link ≡ None
  pub map : IsMap (called link) link text
