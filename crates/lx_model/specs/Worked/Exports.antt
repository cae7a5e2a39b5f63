-- Worked values: the tables of three exports, F with ordinal 2, G without one, and H with ordinal 1. G takes 3, and its
-- name is resident.
use Rattle.std.specs.Prelude.{◌≡◌, true, false, List, [], ◌∷◌, codes}
use Rattle.lx_types.specs.declared.entry.EntryHead.TheVariants.{At, Forward}
use Rattle.lx_types.specs.declared.entry.FwdKey.TheVariants.{NameAt}
use Rattle.lx_model.specs.NameTables.{names_spelling}
use Rattle.lx_model.specs.Bundles.{Bundle, narrow, wide, unused, forwarders, table_spelling}
use Rattle.lx_model.specs.ExportTables.{Exported, resident_table, other_table, AreBundlesOf}

abbrev pub three : List Exported
three =
    record { name = codes "F"; ordinal = 2; resident = false; words = 0; head = At 1 0x10; wide = false }
    ∷ record { name = codes "G"; ordinal = 3; resident = true; words = 2; head = At 1 0x20; wide = false }
    ∷ record { name = codes "H"; ordinal = 1; resident = false; words = 0; head = At 1 0x30; wide = false }
    ∷ []

-- one bundle, whose second flags byte tells two parameter words
abbrev pub three_bundles : List Bundle
three_bundles =
    narrow 1 (record { flags = 1; offset = 0x30 } ∷ record { flags = 1; offset = 0x10 } ∷ record { flags = 17; offset = 0x20 } ∷ []) ∷ []

-- a wide entry of another object, an ordinal that is not used, and a forwarder by name
abbrev pub two : List Exported
two =
    record { name = codes "f"; ordinal = 3; resident = true; words = 0; head = Forward 1 (NameAt 7); wide = false }
    ∷ record { name = codes "w"; ordinal = 1; resident = true; words = 0; head = At 2 0x12345; wide = true }
    ∷ []

abbrev pub two_bundles : List Bundle
two_bundles =
    wide 2 (record { flags = 1; offset = 0x12345 } ∷ [])
    ∷ unused 1
    ∷ forwarders 0 (record { flags = 0; import = 1; key = 7 } ∷ [])
    ∷ []

pub record WorkedExports : Type 0 where
  pub resident : names_spelling (resident_table (codes "d") three) ≡ 1 ∷ 0x44 ∷ 0 ∷ 0 ∷ 1 ∷ 0x47 ∷ 3 ∷ 0 ∷ 0 ∷ []
  pub others : names_spelling (other_table (codes "d") [] three) ≡ 1 ∷ 0x44 ∷ 0 ∷ 0 ∷ 1 ∷ 0x46 ∷ 2 ∷ 0 ∷ 1 ∷ 0x48 ∷ 1 ∷ 0 ∷ 0 ∷ []
  -- a description keeps its case
  pub description : names_spelling (other_table (codes "d") (codes "An") []) ≡ 2 ∷ 0x41 ∷ 0x6E ∷ 0 ∷ 0 ∷ 0 ∷ []
  pub bundles : AreBundlesOf three three_bundles
  pub entries : table_spelling three_bundles ≡ 3 ∷ 1 ∷ 1 ∷ 0 ∷ 1 ∷ 0x30 ∷ 0 ∷ 1 ∷ 0x10 ∷ 0 ∷ 17 ∷ 0x20 ∷ 0 ∷ 0 ∷ []
  pub kinds : AreBundlesOf two two_bundles
  pub others_entries : table_spelling two_bundles ≡
      1 ∷ 3 ∷ 2 ∷ 0 ∷ 1 ∷ 0x45 ∷ 0x23 ∷ 1 ∷ 0
      ∷ 1 ∷ 0
      ∷ 1 ∷ 4 ∷ 0 ∷ 0 ∷ 0 ∷ 1 ∷ 0 ∷ 7 ∷ 0 ∷ 0 ∷ 0
      ∷ 0 ∷ []
