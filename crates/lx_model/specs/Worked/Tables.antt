-- Worked values: name tables, import modules and entry tables.
use Rattle.std.specs.Prelude.{◌≡◌, [], ◌∷◌, ◌++◌, codes, Ok, Err}
use Rattle.std.specs.List.{repeat}
use Rattle.lx_types.specs.declared.refusal.LxKind.TheVariants.{Short, ImportTable, EntryTable}
use Rattle.lx_types.specs.declared.entry.EntryHead.TheVariants.{At, Gate286, Forward}
use Rattle.lx_types.specs.declared.entry.FwdKey.TheVariants.{Ordinal, NameAt}
use Rattle.lx_model.specs.Reading.{fault}
use Rattle.lx_model.specs.NameTables.{names_in, imports_in}
use Rattle.lx_model.specs.EntryTable.{entries_in}

pub record WorkedNames : Type 0 where
  pub names : names_in (1 ∷ codes "D" ++ 0 ∷ 0 ∷ 2 ∷ codes "ab" ++ 0x34 ∷ 0x12 ∷ 0 ∷ 0xFF ∷ []) ≡ Ok ((codes "D", 0) ∷ (codes "ab", 0x1234) ∷ [])
  pub none : names_in (0 ∷ []) ≡ Ok []
  -- the length byte, the name and the ordinal are fields of their own
  pub no_length : names_in (1 ∷ codes "D" ++ 0 ∷ 0 ∷ []) ≡ Err (fault Short 4)
  pub no_name : names_in (2 ∷ codes "D") ≡ Err (fault Short 1)
  pub no_ordinal : names_in (1 ∷ codes "D" ++ 0 ∷ []) ≡ Err (fault Short 2)
  pub imports : imports_in 2 (1 ∷ codes "A" ++ 2 ∷ codes "BC") ≡ Ok (codes "A" ∷ codes "BC" ∷ [])
  pub empty : imports_in 2 (1 ∷ codes "A" ++ 0 ∷ []) ≡ Err (fault ImportTable 2)

-- entry tables of a module with two objects and one import module
pub record WorkedEntries : Type 0 where
  -- two entries of object 1, an unused ordinal, a wide entry of object 2, forwarders by ordinal and by name
  pub entries : entries_in 2 1
      (0x02 ∷ 0x01 ∷ 0x01 ∷ 0x00 ∷ 0x01 ∷ 0x10 ∷ 0x00 ∷ 0x01 ∷ 0x20 ∷ 0x00
      ∷ 0x01 ∷ 0x00
      ∷ 0x01 ∷ 0x03 ∷ 0x02 ∷ 0x00 ∷ 0x01 ∷ 0x78 ∷ 0x56 ∷ 0x34 ∷ 0x12
      ∷ 0x02 ∷ 0x04 ∷ 0x00 ∷ 0x00 ∷ 0x01 ∷ 0x01 ∷ 0x00 ∷ 0x05 ∷ 0x00 ∷ 0x00 ∷ 0x00 ∷ 0x00 ∷ 0x01 ∷ 0x00 ∷ 0x07 ∷ 0x00 ∷ 0x00 ∷ 0x00
      ∷ 0x00 ∷ [])
      ≡ Ok ((1, At 1 0x10) ∷ (2, At 1 0x20) ∷ (4, At 2 0x12345678) ∷ (5, Forward 1 (Ordinal 5)) ∷ (6, Forward 1 (NameAt 7)) ∷ [])
  pub gate : entries_in 2 1 (0x01 ∷ 0x02 ∷ 0x01 ∷ 0x00 ∷ 0x03 ∷ 0x10 ∷ 0x00 ∷ 0x00 ∷ 0x00 ∷ 0x00 ∷ []) ≡ Ok ((1, Gate286 1 0x10) ∷ [])
  -- 65,535 ordinals are allowed, and one more is wrong before its type is read
  pub most : entries_in 2 1 (repeat 257 (0xFF ∷ 0x00 ∷ []) ++ 0x00 ∷ []) ≡ Ok []
  pub one_more : entries_in 2 1 (repeat 257 (0xFF ∷ 0x00 ∷ []) ++ 0x01 ∷ []) ≡ Err (fault EntryTable 514)
  pub kind : entries_in 2 1 (0x01 ∷ 0x05 ∷ []) ≡ Err (fault EntryTable 0)
  pub object : entries_in 2 1 (0x01 ∷ 0x00 ∷ 0x01 ∷ 0x01 ∷ 0x03 ∷ 0x00 ∷ []) ≡ Err (fault EntryTable 2)
  pub import : entries_in 2 1 (0x01 ∷ 0x04 ∷ 0x00 ∷ 0x00 ∷ 0x01 ∷ 0x02 ∷ 0x00 ∷ []) ≡ Err (fault EntryTable 4)
  pub cut : entries_in 2 1 (0x01 ∷ 0x01 ∷ 0x01 ∷ 0x00 ∷ 0x01 ∷ 0x10 ∷ []) ≡ Err (fault Short 5)
  pub no_end : entries_in 2 1 [] ≡ Err (fault Short 0)
