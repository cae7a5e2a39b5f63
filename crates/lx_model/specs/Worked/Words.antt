-- Worked values: which modules are a library, entry points by key, and bytes by offset.
use Rattle.std.specs.Prelude.{◌≡◌, List, [], ◌∷◌, codes, None, Some, Ok, replicate}
use Rattle.lx_types.specs.declared.entry.EntryKey.TheVariants as keys
use Rattle.lx_types.specs.declared.parts.Parts.{Parts}
use Rattle.lx_model.specs.declared.library.LibraryRefusal.TheVariants.{TooManyModules, NameTwice}
use Rattle.lx_model.specs.Library.{no_module}
use Rattle.lx_model.specs.Entries.{EntryOf}
use Rattle.lx_model.specs.Gathering.{LibraryFault}
use Rattle.lx_model.specs.ModuleBytes.{FixedByte, spot_flags}
use Rattle.lx_model.specs.Worked.Library.{library, fixed_up, owner, base, chain, spot}

pub record WorkedGathering : Type 0 where
  pub none : LibraryFault [] ≡ None
  pub two : LibraryFault (library (codes "A") ∷ library (codes "B") ∷ []) ≡ None
  -- the first module that has an earlier one's name, in whatever case
  pub twice : LibraryFault (library (codes "A") ∷ library (codes "B") ∷ library (codes "b") ∷ library (codes "A") ∷ []) ≡ Some (NameTwice 1 2)
  pub first_of_three : LibraryFault (library (codes "A") ∷ library (codes "A") ∷ library (codes "A") ∷ []) ≡ Some (NameTwice 0 1)
  -- 64 modules are allowed; that there are more is tried first
  pub most : LibraryFault (replicate 64 no_module) ≡ Some (NameTwice 0 1)
  pub too_many : LibraryFault (replicate 65 no_module) ≡ Some (TooManyModules 65)

-- X, with a self-relative source on its second page
abbrev second_page : List Parts
second_page = fixed_up 0x2005 (codes "B") [] (0x08 ∷ 0x00 ∷ 0x00 ∷ 0x00 ∷ 0x01 ∷ 0x00 ∷ 0x00 ∷ []) [] ∷ []

pub record WorkedBytes : Type 0 where
  pub ordinal : EntryOf (chain (owner (codes "C") 0x20)) 2 (keys.Ordinal 1) ≡ Ok (spot 3 1 0x20)
  pub name : EntryOf (chain (owner (codes "C") 0x20)) 3 (keys.Named (codes "f")) ≡ Ok (spot 3 1 0x20)
  pub flags : spot_flags (chain (owner (codes "C") 0x20)) (spot 3 1 0x20) ≡ 0x2005
  pub byte : FixedByte second_page 0 (record { mods = base 0 0x10000000 ∷ [] }) 1 0x1001 ≡ 0xEF
  pub first_page : FixedByte second_page 0 (record { mods = base 0 0x10000000 ∷ [] }) 1 0x0001 ≡ 0
