-- The names that a linker gives of itself.
use Rattle.std.specs.Prelude.{◌≡◌, codes}
use Rattle.seg_parts.specs.declared.parts.FixedNames.{FixedNames}

pub record AreFixed (n : FixedNames) : Type 0 where
  pub near_is : n.near ≡ codes "c_common"
  pub bss_is : n.bss ≡ codes "BSS"
  pub far_is : n.far ≡ codes "FAR_BSS"
  pub stack_is : n.stack ≡ codes "STACK"
