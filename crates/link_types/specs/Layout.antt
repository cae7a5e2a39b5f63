-- What a layout tells of a link.
use Rattle.std.specs.Prelude.{◌≡◌}
use Rattle.link_model.specs.Link.{Link}
use Rattle.link_model.specs.Layout as rules
use Rattle.link_types.specs.Places.{ArePlaces}
use Rattle.link_types.specs.declared.layout.Layout.{Layout}

-- This is the layout of the link.
pub record IsLaidOut (l : Link) (layout : Layout) : Type 0 where
  pub objects : layout.objects ≡ rules.objects l
  pub places : ArePlaces l layout.places
  pub stack : layout.stack ≡ rules.stack_top l
