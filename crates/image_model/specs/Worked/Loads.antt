-- Worked loads: where the world of a load has the bases of a module and the entry points of the libraries that it imports.
use Rattle.std.specs.Prelude.{◌≡◌, [], ◌∷◌, codes, List}
use Rattle.lx_types.specs.declared.entry.EntryKey.TheVariants.{Ordinal, Named}
use Rattle.lx_types.specs.declared.bases.Bases.{Bases}
use Rattle.lx_types.specs.declared.parts.Parts.{Parts}
use Rattle.lx_model.specs.Worked.Library.{owner, base, chain}
use Rattle.link_model.specs.Value.{World}
use Rattle.image_model.specs.World.{world_of}

-- Module 0 imports f of A, whose f leads through B to f of C, at 20h of C's object.
abbrev modules : List Parts
modules = chain (owner (codes "C") 0x20)

abbrev bases : Bases
bases = record { mods = base 3 0x10020000 ∷ base 0 0x10000000 ∷ [] }

abbrev loaded : World
loaded = world_of modules 0 bases

pub record WorkedLoads : Type 0 where
  pub bases : loaded.bases ≡ 0x10000000 ∷ []
  -- a 32-bit code object's address and flags, through two forwarders
  pub address : (loaded.imp (codes "A") (Named (codes "f"))).address ≡ 0x10020020
  pub flags : (loaded.imp (codes "A") (Named (codes "f"))).flags ≡ 0x2005
  pub by_ordinal : (loaded.imp (codes "C") (Ordinal 1)).address ≡ 0x10020020
  -- names of entries are compared byte for byte, and a gate is no place
  pub case : (loaded.imp (codes "A") (Named (codes "F"))).address ≡ 0
  pub gate : (loaded.imp (codes "C") (Ordinal 2)).address ≡ 0
  pub lost : (loaded.imp (codes "Z") (Ordinal 1)).address ≡ 0
