-- What the types of fixups say of their numbers.
use Rattle.std.specs.Prelude.{◌<◌, ◌^◌}
use Rattle.lx_types.specs.declared.fix.Fix.{Fix}
use Rattle.lx_types.specs.declared.fix.FixTarget.{FixTarget}
use Rattle.lx_types.specs.declared.fix.FixTarget.TheVariants.{Internal, Ordinal, Named, Own}

abbrev pub TargetHasRange : FixTarget → Type 0
TargetHasRange (Internal object offset) = (object < 2 ^ 32) × (offset < 2 ^ 32)
TargetHasRange (Ordinal import ordinal) = (import < 2 ^ 32) × (ordinal < 2 ^ 32)
TargetHasRange (Named import name_at) = (import < 2 ^ 32) × (name_at < 2 ^ 32)
TargetHasRange (Own ordinal) = ordinal < 2 ^ 32

pub record HasRange (f : Fix) : Type 0 where
  pub additive : f.additive < 2 ^ 32
  pub target : TargetHasRange f.target
