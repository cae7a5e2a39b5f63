-- The numbers that the definitions of a link name by words, as this project writes them. Those of the LX
-- format are written out in lx_types.
use Rattle.std.specs.Prelude.{◌≡◌}
use Rattle.link_model.specs.declared.limits.TheConstants.{MAX_NARROW_OBJECT, MAX_MEMORY, MAX_NUMBER}

pub record LinkNumbers : Type 0 where
  pub narrow_object : MAX_NARROW_OBJECT ≡ 65536
  pub memory : MAX_MEMORY ≡ 16777216
  pub number : MAX_NUMBER ≡ 65535
