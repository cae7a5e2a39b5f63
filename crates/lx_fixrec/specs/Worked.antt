-- Worked values: the records of fixups of a page, from outside the definitions.
use Rattle.std.specs.Prelude.{◌≡◌, ℕ, List, [], ◌∷◌, true, false, ℤ, pos, negsuc}
use Rattle.std.specs.List.{flat_map}
use Rattle.lx_types.specs.declared.fix.Source.{Source}
use Rattle.lx_types.specs.declared.fix.Source.TheVariants.{Sel, Far32, Off32, Self32}
use Rattle.lx_types.specs.declared.fix.FixTarget.{FixTarget}
use Rattle.lx_types.specs.declared.fix.FixTarget.TheVariants.{Internal, Ordinal, Named, Own}
use Rattle.lx_types.specs.declared.fix.Fix.{Fix}
use Rattle.lx_model.specs.RecordSpelling.{record_spelling}
use Rattle.lx_model.specs.JoinedRecords.{records_for}

abbrev page : List Fix → List ℕ
page fixes = flat_map record_spelling (records_for fixes)

abbrev fix : Source → ℤ → FixTarget → ℕ → Fix
fix source offset target additive = record { source = source; alias = false; offset = offset; target = target; additive = additive }

abbrev alias_fix : Source → ℤ → FixTarget → ℕ → Fix
alias_fix source offset target additive = record { source = source; alias = true; offset = offset; target = target; additive = additive }

pub record WorkedWriting : Type 0 where
  -- three sources of one target, given in another order, and two others between them
  pub listed : page (fix Off32 (pos 4092) (Internal 1 0) 0 ∷ fix Off32 (pos 4) (Ordinal 1 1) 4 ∷ fix Off32 (pos 0) (Internal 1 0) 0
      ∷ fix Off32 (pos 12) (Named 1 8) 0 ∷ fix Off32 (pos 8) (Internal 1 0) 0 ∷ [])
      ≡ 0x27 ∷ 0x00 ∷ 0x03 ∷ 0x01 ∷ 0x00 ∷ 0x00 ∷ 0x00 ∷ 0x00 ∷ 0x08 ∷ 0x00 ∷ 0xFC ∷ 0x0F
      ∷ 0x07 ∷ 0x85 ∷ 0x04 ∷ 0x00 ∷ 0x01 ∷ 0x01 ∷ 0x04 ∷ 0x00
      ∷ 0x07 ∷ 0x02 ∷ 0x0C ∷ 0x00 ∷ 0x01 ∷ 0x08 ∷ 0x00 ∷ []
  -- a doubleword that begins two bytes before a page's end has a record on both pages, and is in no list
  pub page_end : page (fix Off32 (pos 8) (Internal 1 0) 0 ∷ fix Off32 (pos 4094) (Internal 1 0) 0 ∷ [])
      ≡ 0x07 ∷ 0x00 ∷ 0x08 ∷ 0x00 ∷ 0x01 ∷ 0x00 ∷ 0x00 ∷ 0x07 ∷ 0x00 ∷ 0xFE ∷ 0x0F ∷ 0x01 ∷ 0x00 ∷ 0x00 ∷ []
  pub page_start : page (fix Off32 (pos 8) (Internal 1 0) 0 ∷ fix Off32 (negsuc 1) (Internal 1 0) 0 ∷ [])
      ≡ 0x07 ∷ 0x00 ∷ 0xFE ∷ 0xFF ∷ 0x01 ∷ 0x00 ∷ 0x00 ∷ 0x07 ∷ 0x00 ∷ 0x08 ∷ 0x00 ∷ 0x01 ∷ 0x00 ∷ 0x00 ∷ []
  -- wide numbers, and an additive of four bytes
  pub wide : page (fix Self32 (pos 256) (Named 0x102 0x12345678) 0x80000000 ∷ [])
      ≡ 0x08 ∷ 0x76 ∷ 0x00 ∷ 0x01 ∷ 0x02 ∷ 0x01 ∷ 0x78 ∷ 0x56 ∷ 0x34 ∷ 0x12 ∷ 0x00 ∷ 0x00 ∷ 0x00 ∷ 0x80 ∷ []
  -- a selector of the alias and one that is none are two lists
  pub alias : page (alias_fix Sel (pos 32) (Internal 3 0) 0 ∷ fix Sel (pos 34) (Internal 3 0) 0 ∷ [])
      ≡ 0x12 ∷ 0x00 ∷ 0x20 ∷ 0x00 ∷ 0x03 ∷ 0x02 ∷ 0x00 ∷ 0x22 ∷ 0x00 ∷ 0x03 ∷ []
  -- an ordinal of the entry table, of two bytes
  pub own : page (fix Far32 (pos 16) (Own 300) 0 ∷ []) ≡ 0x06 ∷ 0x43 ∷ 0x10 ∷ 0x00 ∷ 0x2C ∷ 0x01 ∷ []
