-- Worked files read again: their parts, and their bytes at bases other than the linked ones.
use Rattle.std.specs.Prelude.{◌≡◌, ℕ, List, [], ◌∷◌, map, codes, None}
use Rattle.std.specs.List.{range_with_len}
use Rattle.lx_types.specs.declared.bases.Bases.{Bases}
use Rattle.lx_types.specs.declared.bases.ModBases.{ModBases}
use Rattle.lx_types.specs.declared.parts.Parts.{Parts}
use Rattle.lx_model.specs.Module.{LxFault, parts_of}
use Rattle.lx_model.specs.ModuleBytes.{FixedByte}
use Rattle.lx_model.specs.Worked.Library.{owner}
use Rattle.link_model.specs.Link.{Link}
use Rattle.link_model.specs.Mean.{Mean}
use Rattle.image_model.specs.File.{file_of}
use Rattle.image_model.specs.Linked.{image_of}
use Rattle.image_model.specs.ReadBack.{parts_of_image}
use Rattle.image_model.specs.World.{world_of}
use Rattle.image_model.specs.Worked.OneObject.{one_object}
use Rattle.image_model.specs.Worked.Program.{program}
use Rattle.image_model.specs.Worked.Forwarder.{forwarder}
use Rattle.image_model.specs.Worked.Iterated.{iterated_page}
use Rattle.image_model.specs.Worked.Straddling.{straddling}

-- The file has no fault, and its parts are those of its image.
pub record IsReadBack (l : Link) : Type 0 where
  pub faultless : LxFault (file_of (image_of l)) ≡ None
  pub parts : parts_of (file_of (image_of l)) ≡ parts_of_image (image_of l)

pub record WorkedReadAgain : Type 0 where
  pub object_read : IsReadBack one_object
  pub program_read : IsReadBack program
  pub forwarder_read : IsReadBack forwarder
  pub iterated_read : IsReadBack iterated_page
  pub straddling_read : IsReadBack straddling

-- ---- bytes under bases

abbrev at : ℕ → ℕ → ModBases
at m base = record { «module» = m; objects = base ∷ [] }

-- The linked module, and beside it a library M.
abbrev beside : Link → List Parts
beside l = parts_of (file_of (image_of l)) ∷ owner (codes "M") 0x20 ∷ []

abbrev bases : ℕ → Bases
bases base = record { mods = at 0 base ∷ at 1 0x10020000 ∷ [] }

-- So many bytes of object 1 from an offset on: as the file's fixups leave them, and as the link means them.
abbrev fixed_bytes : Link → ℕ → ℕ → ℕ → List ℕ
fixed_bytes l base from n = map (FixedByte (beside l) 0 (bases base) 1) (range_with_len from n)

abbrev linked_bytes : Link → ℕ → ℕ → ℕ → List ℕ
linked_bytes l base from n = map (Mean l (world_of (beside l) 0 (bases base)) 1) (range_with_len from n)

pub record WorkedBytes : Type 0 where
  pub object_bytes : fixed_bytes one_object 0x10030000 0 8 ≡ linked_bytes one_object 0x10030000 0 8
  pub object_moved : fixed_bytes one_object 0x10030000 0 8 ≡ 0 ∷ 0 ∷ 0 ∷ 0 ∷ 0 ∷ 0 ∷ 3 ∷ 0x10 ∷ []
  -- 16-bit and 32-bit sources, selectors, and data between them
  pub iterated_bytes : fixed_bytes iterated_page 0x00050000 0 40 ≡ linked_bytes iterated_page 0x00050000 0 40
  -- entry 1 of M and 4, over the end of a page
  pub straddling_bytes : fixed_bytes straddling 0x10000000 4092 8 ≡ linked_bytes straddling 0x10000000 4092 8
  pub import_bytes : fixed_bytes straddling 0x10000000 4092 8 ≡ 0 ∷ 0 ∷ 0x24 ∷ 0 ∷ 2 ∷ 0x10 ∷ 0 ∷ 0 ∷ []
