-- Worked choices: the form of a page, the records of its fixups, and the bundles of entries.
use Rattle.std.specs.Prelude.{◌≡◌, ℕ, ℤ, pos, negsuc, Bool, false, true, List, [], ◌∷◌, ◌++◌, replicate, codes}
use Rattle.std.specs.List.{repeat, flat_map}
use Rattle.lx_types.specs.declared.entry.EntryHead.{EntryHead}
use Rattle.lx_types.specs.declared.entry.EntryHead.TheVariants.{At, Forward}
use Rattle.lx_types.specs.declared.entry.FwdKey.TheVariants.{NameAt}
use Rattle.lx_types.specs.declared.entry.FwdKey.TheVariants as keys
use Rattle.lx_types.specs.declared.fix.Fix.{Fix}
use Rattle.lx_types.specs.declared.fix.Source.{Source}
use Rattle.lx_types.specs.declared.fix.Source.TheVariants.{Sel, Off16, Off32}
use Rattle.lx_types.specs.declared.fix.FixTarget.{FixTarget}
use Rattle.lx_types.specs.declared.fix.FixTarget.TheVariants.{Internal, Ordinal, Named}
use Rattle.lx_model.specs.Bundles.{table_spelling}
use Rattle.lx_model.specs.RecordSpelling.{record_spelling}
use Rattle.lx_model.specs.JoinedEntries.{bundles_for}
use Rattle.lx_model.specs.ExportTables.{Exported}
use Rattle.lx_model.specs.JoinedRecords.{begins, records_for}
use Rattle.image_model.specs.Image.{plain, iterated, zeros}
use Rattle.image_model.specs.PageForms.{form_of_page}

-- ---- page forms

pub record WorkedForms : Type 0 where
  pub empty : form_of_page (replicate 4096 0) ≡ zeros
  -- zeros after the last byte that is not 0 are no data
  pub short : form_of_page (0 ∷ 1 ∷ 0 ∷ 0 ∷ []) ≡ plain (0 ∷ 1 ∷ [])
  pub full : form_of_page (replicate 4096 0x90) ≡ iterated (record { times = 4096; bytes = 0x90 ∷ [] } ∷ [])
  pub pattern : form_of_page (repeat 1024 (0xDE ∷ 0xAD ∷ 0xBE ∷ 0xEF ∷ [])) ≡
      iterated (record { times = 1024; bytes = 0xDE ∷ 0xAD ∷ 0xBE ∷ 0xEF ∷ [] } ∷ [])
  -- five bytes of one value take five bytes as a group
  pub no_gain : form_of_page (replicate 5 7) ≡ plain (replicate 5 7)
  -- a run of eight has a group of its own, and one of seven has not
  pub runs : form_of_page (1 ∷ replicate 20 2 ++ 3 ∷ replicate 7 4) ≡ iterated
      (record { times = 1; bytes = 1 ∷ [] } ∷ record { times = 20; bytes = 2 ∷ [] } ∷ record { times = 1; bytes = 3 ∷ replicate 7 4 } ∷ [])

-- ---- records

abbrev fix : Source → ℤ → FixTarget → ℕ → Fix
fix source offset target additive = record { source = source; alias = false; offset = offset; target = target; additive = additive }

abbrev to_start : ℤ → Fix
to_start offset = fix Off32 offset (Internal 1 0) 0

abbrev record_bytes : List Fix → List ℕ
record_bytes fixes = flat_map record_spelling (records_for fixes)

pub record WorkedRecords : Type 0 where
  -- three sources of one target are a list, in whatever order they came
  pub listed : record_bytes (to_start (pos 8) ∷ to_start (pos 4092) ∷ to_start (pos 0) ∷ []) ≡
      0x27 ∷ 0x00 ∷ 0x03 ∷ 0x01 ∷ 0x00 ∷ 0x00 ∷ 0x00 ∷ 0x00 ∷ 0x08 ∷ 0x00 ∷ 0xFC ∷ 0x0F ∷ []
  -- a source over the page's end is in no list, and neither is one that begins before the page
  pub at_end : record_bytes (to_start (pos 0) ∷ to_start (pos 4093) ∷ [])
      ≡ 0x07 ∷ 0x00 ∷ 0x00 ∷ 0x00 ∷ 0x01 ∷ 0x00 ∷ 0x00 ∷ 0x07 ∷ 0x00 ∷ 0xFD ∷ 0x0F ∷ 0x01 ∷ 0x00 ∷ 0x00 ∷ []
  pub before : record_bytes (to_start (pos 4) ∷ to_start (negsuc 1) ∷ [])
      ≡ 0x07 ∷ 0x00 ∷ 0xFE ∷ 0xFF ∷ 0x01 ∷ 0x00 ∷ 0x00 ∷ 0x07 ∷ 0x00 ∷ 0x04 ∷ 0x00 ∷ 0x01 ∷ 0x00 ∷ 0x00 ∷ []
  -- a record stands by its first source: the list before a source that lies between its two
  pub order : record_bytes (to_start (pos 8) ∷ fix Off16 (pos 4) (Internal 1 0) 0 ∷ to_start (pos 0) ∷ []) ≡
      0x27 ∷ 0x00 ∷ 0x02 ∷ 0x01 ∷ 0x00 ∷ 0x00 ∷ 0x00 ∷ 0x00 ∷ 0x08 ∷ 0x00 ∷ 0x05 ∷ 0x00 ∷ 0x04 ∷ 0x00 ∷ 0x01 ∷ 0x00 ∷ 0x00 ∷ []
  -- an import's ordinal and its additive, each as short as can be
  pub import : record_bytes (fix Off32 (pos 4) (Ordinal 1 1) 4 ∷ []) ≡ 0x07 ∷ 0x85 ∷ 0x04 ∷ 0x00 ∷ 0x01 ∷ 0x01 ∷ 0x04 ∷ 0x00 ∷ []
  pub wide : record_bytes (fix Off32 (pos 0) (Named 0x102 0x12345) 0x10000 ∷ []) ≡
      0x07 ∷ 0x76 ∷ 0x00 ∷ 0x00 ∷ 0x02 ∷ 0x01 ∷ 0x45 ∷ 0x23 ∷ 0x01 ∷ 0x00 ∷ 0x00 ∷ 0x00 ∷ 0x01 ∷ 0x00 ∷ []
  pub word_ordinal : record_bytes (fix Off32 (pos 0) (Ordinal 1 256) 0 ∷ []) ≡ 0x07 ∷ 0x01 ∷ 0x00 ∷ 0x00 ∷ 0x01 ∷ 0x00 ∷ 0x01 ∷ []
  pub selector : record_bytes (fix Sel (pos 0) (Internal 3 0) 0 ∷ []) ≡ 0x02 ∷ 0x00 ∷ 0x00 ∷ 0x00 ∷ 0x03 ∷ []
  -- after a list of 255 sources the next one begins a record
  pub most : begins (replicate 255 (to_start (pos 0))) (to_start (pos 4)) ≡ true
  pub one_less : begins (replicate 254 (to_start (pos 0))) (to_start (pos 4)) ≡ false

-- ---- entries

abbrev entry : ℕ → EntryHead → Bool → Exported
entry ordinal head wide = record { name = codes "F"; ordinal = ordinal; resident = true; words = 0; head = head; wide = wide }

pub record WorkedBundles : Type 0 where
  pub none : table_spelling (bundles_for []) ≡ 0 ∷ []
  -- neighbours of one type and object are joined, in order of ordinals
  pub joined : table_spelling (bundles_for (entry 2 (At 1 0x20) false ∷ entry 1 (At 1 0x10) false ∷ [])) ≡
      0x02 ∷ 0x01 ∷ 0x01 ∷ 0x00 ∷ 0x01 ∷ 0x10 ∷ 0x00 ∷ 0x01 ∷ 0x20 ∷ 0x00 ∷ 0x00 ∷ []
  pub objects : table_spelling (bundles_for (entry 1 (At 1 0) false ∷ entry 2 (At 2 0) false ∷ [])) ≡
      0x01 ∷ 0x01 ∷ 0x01 ∷ 0x00 ∷ 0x01 ∷ 0x00 ∷ 0x00 ∷ 0x01 ∷ 0x01 ∷ 0x02 ∷ 0x00 ∷ 0x01 ∷ 0x00 ∷ 0x00 ∷ 0x00 ∷ []
  pub types : table_spelling (bundles_for (entry 1 (At 1 0) false ∷ entry 2 (At 1 0x10000) true ∷ [])) ≡
      0x01 ∷ 0x01 ∷ 0x01 ∷ 0x00 ∷ 0x01 ∷ 0x00 ∷ 0x00 ∷ 0x01 ∷ 0x03 ∷ 0x01 ∷ 0x00 ∷ 0x01 ∷ 0x00 ∷ 0x00 ∷ 0x01 ∷ 0x00 ∷ 0x00 ∷ []
  -- forwarders to any modules are joined
  pub forwarders : table_spelling (bundles_for (entry 1 (Forward 1 (keys.Ordinal 5)) false ∷ entry 2 (Forward 2 (NameAt 7)) false ∷ [])) ≡
      0x02 ∷ 0x04 ∷ 0x00 ∷ 0x00 ∷ 0x01 ∷ 0x01 ∷ 0x00 ∷ 0x05 ∷ 0x00 ∷ 0x00 ∷ 0x00 ∷ 0x00 ∷ 0x02 ∷ 0x00 ∷ 0x07 ∷ 0x00 ∷ 0x00 ∷ 0x00 ∷ 0x00 ∷ []
  -- 299 ordinals that nothing uses
  pub unused : table_spelling (bundles_for (entry 300 (At 1 0) false ∷ [])) ≡
      0xFF ∷ 0x00 ∷ 0x2C ∷ 0x00 ∷ 0x01 ∷ 0x01 ∷ 0x01 ∷ 0x00 ∷ 0x01 ∷ 0x00 ∷ 0x00 ∷ 0x00 ∷ []
