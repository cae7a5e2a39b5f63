-- Worked values: fixup records and iterated data.
use Rattle.std.specs.Prelude.{◌≡◌, ℕ, ◌+◌, List, [], ◌∷◌, length, Ok, Err, true, false, ℤ, pos, negsuc}
use Rattle.std.specs.List.{repeat}
use Rattle.lx_types.specs.declared.refusal.LxRefusal.{LxRefusal}
use Rattle.lx_types.specs.declared.refusal.LxKind.TheVariants.{Short, TooLong, BadSource, Straddle}
use Rattle.lx_types.specs.declared.fix.Source.{Source}
use Rattle.lx_types.specs.declared.fix.Source.TheVariants.{Sel, Far32, Off32, Self32}
use Rattle.lx_types.specs.declared.fix.FixTarget.{FixTarget}
use Rattle.lx_types.specs.declared.fix.FixTarget.TheVariants.{Internal, Ordinal, Named, Own}
use Rattle.lx_types.specs.declared.fix.Fix.{Fix}
use Rattle.lx_model.specs.Reading.{fault}
use Rattle.lx_model.specs.Records.{records_at}
use Rattle.lx_model.specs.Iterated.{expansion}

-- The bytes are records, of which the first stands at place 100h and has these fixups.
abbrev pub IsRecord : List ℕ → List Fix → Type 0
IsRecord bytes fixes =
    records_at 0x100 bytes ≡ record { items = record { at = 0x100; fixes = fixes } ∷ []; end = Ok (record { at = 0x100 + length bytes; left = [] }) }

-- the bytes are wrong at once
abbrev pub IsNoRecord : List ℕ → LxRefusal → Type 0
IsNoRecord bytes e = records_at 0x100 bytes ≡ record { items = []; end = Err e }

abbrev fix : Source → ℤ → FixTarget → ℕ → Fix
fix source offset target additive = record { source = source; alias = false; offset = offset; target = target; additive = additive }

abbrev alias_fix : Source → ℤ → FixTarget → ℕ → Fix
alias_fix source offset target additive = record { source = source; alias = true; offset = offset; target = target; additive = additive }

pub record WorkedRecords : Type 0 where
  -- a doubleword that begins two bytes before a page's end has a record on both pages
  pub page_end : IsRecord (0x07 ∷ 0x00 ∷ 0xFE ∷ 0x0F ∷ 0x01 ∷ 0x00 ∷ 0x00 ∷ []) (fix Off32 (pos 4094) (Internal 1 0) 0 ∷ [])
  pub page_start : IsRecord (0x07 ∷ 0x00 ∷ 0xFE ∷ 0xFF ∷ 0x01 ∷ 0x00 ∷ 0x00 ∷ []) (fix Off32 (negsuc 1) (Internal 1 0) 0 ∷ [])
  -- three sources of one target, at 0, 8 and 4092
  pub listed : IsRecord (0x27 ∷ 0x00 ∷ 0x03 ∷ 0x01 ∷ 0x00 ∷ 0x00 ∷ 0x00 ∷ 0x00 ∷ 0x08 ∷ 0x00 ∷ 0xFC ∷ 0x0F ∷ [])
      (fix Off32 (pos 0) (Internal 1 0) 0 ∷ fix Off32 (pos 8) (Internal 1 0) 0 ∷ fix Off32 (pos 4092) (Internal 1 0) 0 ∷ [])
  -- an import by ordinal, with an ordinal of one byte and an additive of two
  pub import : IsRecord (0x07 ∷ 0x85 ∷ 0x04 ∷ 0x00 ∷ 0x01 ∷ 0x01 ∷ 0x04 ∷ 0x00 ∷ []) (fix Off32 (pos 4) (Ordinal 1 1) 4 ∷ [])
  -- an import by name, in wide numbers; an additive of four bytes
  pub wide : IsRecord (0x08 ∷ 0x76 ∷ 0x00 ∷ 0x01 ∷ 0x02 ∷ 0x01 ∷ 0x78 ∷ 0x56 ∷ 0x34 ∷ 0x12 ∷ 0x00 ∷ 0x00 ∷ 0x00 ∷ 0x80 ∷ [])
      (fix Self32 (pos 256) (Named 0x102 0x12345678) 0x80000000 ∷ [])
  -- 80h makes the ordinal a byte, whatever 10h says; 10h alone a doubleword
  pub byte_ordinal : IsRecord (0x07 ∷ 0x91 ∷ 0x00 ∷ 0x00 ∷ 0x01 ∷ 0x05 ∷ []) (fix Off32 (pos 0) (Ordinal 1 5) 0 ∷ [])
  pub wide_ordinal : IsRecord (0x07 ∷ 0x11 ∷ 0x00 ∷ 0x00 ∷ 0x01 ∷ 0x05 ∷ 0x00 ∷ 0x01 ∷ 0x00 ∷ []) (fix Off32 (pos 0) (Ordinal 1 0x10005) 0 ∷ [])
  pub word_ordinal : IsRecord (0x07 ∷ 0x01 ∷ 0x00 ∷ 0x00 ∷ 0x01 ∷ 0x05 ∷ 0x01 ∷ []) (fix Off32 (pos 0) (Ordinal 1 0x105) 0 ∷ [])
  -- an additive of four bytes, at an offset in an object of two
  pub wide_additive : IsRecord (0x07 ∷ 0x24 ∷ 0x00 ∷ 0x00 ∷ 0x01 ∷ 0x10 ∷ 0x00 ∷ 0x78 ∷ 0x56 ∷ 0x34 ∷ 0x12 ∷ [])
      (fix Off32 (pos 0) (Internal 1 0x10) 0x12345678 ∷ [])
  -- an ordinal of the entry table, of two bytes
  pub own : IsRecord (0x06 ∷ 0x43 ∷ 0x10 ∷ 0x00 ∷ 0x2C ∷ 0x01 ∷ []) (fix Far32 (pos 16) (Own 300) 0 ∷ [])
  -- a selector of the alias: its target has no offset
  pub selector : IsRecord (0x12 ∷ 0x00 ∷ 0x20 ∷ 0x00 ∷ 0x03 ∷ []) (alias_fix Sel (pos 32) (Internal 3 0) 0 ∷ [])
  pub empty_list : IsRecord (0x27 ∷ 0x00 ∷ 0x00 ∷ 0x01 ∷ 0x00 ∷ 0x00 ∷ []) []

-- what is wrong first, and where
pub record WorkedRecordFaults : Type 0 where
  pub source : IsNoRecord (0x04 ∷ []) (fault BadSource 0x100)
  pub alias : IsNoRecord (0x17 ∷ []) (fault BadSource 0x100)
  pub chain : IsNoRecord (0x07 ∷ 0x08 ∷ []) (fault BadSource 0x100)
  pub flags : IsNoRecord (0x07 ∷ []) (fault Short 0x101)
  pub offset : IsNoRecord (0x07 ∷ 0x00 ∷ 0xFC ∷ []) (fault Short 0x102)
  -- the offset stands before the target, which is cut off
  pub straddle : IsNoRecord (0x07 ∷ 0x00 ∷ 0x00 ∷ 0x10 ∷ []) (fault Straddle 0x102)
  pub before : IsNoRecord (0x07 ∷ 0x00 ∷ 0xFC ∷ 0xFF ∷ 0x01 ∷ 0x00 ∷ 0x00 ∷ []) (fault Straddle 0x102)
  pub target : IsNoRecord (0x07 ∷ 0x00 ∷ 0x00 ∷ 0x00 ∷ 0x01 ∷ 0x00 ∷ []) (fault Short 0x105)
  -- in a list the second offset straddles
  pub in_list : IsNoRecord (0x27 ∷ 0x00 ∷ 0x02 ∷ 0x01 ∷ 0x00 ∷ 0x00 ∷ 0x00 ∷ 0x00 ∷ 0x00 ∷ 0x10 ∷ []) (fault Straddle 0x108)

pub record WorkedGroups : Type 0 where
  -- four bytes 1,024 times are a page
  pub page : expansion (0x00 ∷ 0x04 ∷ 0x04 ∷ 0x00 ∷ 0xDE ∷ 0xAD ∷ 0xBE ∷ 0xEF ∷ []) ≡ Ok (repeat 1024 (0xDE ∷ 0xAD ∷ 0xBE ∷ 0xEF ∷ []))
  pub more : expansion (0x01 ∷ 0x04 ∷ 0x04 ∷ 0x00 ∷ 0xDE ∷ 0xAD ∷ 0xBE ∷ 0xEF ∷ []) ≡ Err (fault TooLong 0)
  pub second : expansion (0x02 ∷ 0x00 ∷ 0x01 ∷ 0x00 ∷ 0x41 ∷ 0x01 ∷ 0x00 ∷ 0x02 ∷ 0x00 ∷ 0x42 ∷ 0x43 ∷ []) ≡ Ok (0x41 ∷ 0x41 ∷ 0x42 ∷ 0x43 ∷ [])
  pub cut : expansion (0x02 ∷ 0x00 ∷ 0x01 ∷ 0x00 ∷ 0x41 ∷ 0x01 ∷ 0x00 ∷ 0x02 ∷ 0x00 ∷ 0x42 ∷ []) ≡ Err (fault Short 5)
  -- a group that is cut off is short before it is too long
  pub cut_first : expansion (0xFF ∷ 0xFF ∷ 0x02 ∷ 0x00 ∷ 0x42 ∷ []) ≡ Err (fault Short 0)
  pub nothing : expansion [] ≡ Ok []
