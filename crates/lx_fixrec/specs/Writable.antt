-- Which fixups can be written as the records of a page.
-- "32-bit Linear eXecutable Module Format": "Fixup Record Table".
use Rattle.std.specs.Prelude.{◌≡◌, ℕ, ◌<◌, ◌^◌, ◌⊎◌, List, All, AllPairs, pos, ◌+ℤ◌, ◌≤ℤ◌}
use Rattle.lx_types.specs.declared.fix.Source.{Source}
use Rattle.lx_types.specs.declared.fix.Source.TheVariants.{Sel}
use Rattle.lx_types.specs.declared.fix.FixTarget.{FixTarget}
use Rattle.lx_types.specs.declared.fix.FixTarget.TheVariants.{Internal, Ordinal, Named, Own}
use Rattle.lx_types.specs.declared.fix.Fix.{Fix}
use Rattle.lx_model.specs.Sources.{source_size}
use Rattle.lx_model.specs.RecordSpelling.{OffsetFits, AliasFits}

-- a selector alone has no offset
abbrev pub SelectorFits : Source → ℕ → Type 0
SelectorFits Sel offset = offset ≡ 0
SelectorFits source offset = Unit {0}

-- The numbers of objects and modules and the ordinals of the entry table have 16 bits; the others have the 32 bits
-- of their type.
abbrev pub NumbersFit : Source → FixTarget → Type 0
NumbersFit source (Internal object offset) = (object < 2 ^ 16) × (offset < 2 ^ 32) × SelectorFits source offset
NumbersFit source (Ordinal import ordinal) = (import < 2 ^ 16) × (ordinal < 2 ^ 32)
NumbersFit source (Named import name_at) = (import < 2 ^ 16) × (name_at < 2 ^ 32)
NumbersFit source (Own ordinal) = ordinal < 2 ^ 16

pub record IsWritable (f : Fix) : Type 0 where
  -- the source has a byte in the page
  pub source : OffsetFits f.source f.offset
  -- the selector of the alias is that of a source with a selector
  pub alias : AliasFits f.alias f.source
  pub target : NumbersFit f.source f.target
  pub additive : f.additive < 2 ^ 32

-- two sources share no byte
abbrev pub AreApart : Fix → Fix → Type 0
AreApart f g = ((f.offset +ℤ pos (source_size f.source)) ≤ℤ g.offset) ⊎ ((g.offset +ℤ pos (source_size g.source)) ≤ℤ f.offset)

pub record MayBeWritten (fixes : List Fix) : Type 0 where
  pub each : All IsWritable fixes
  pub apart : AllPairs AreApart fixes
