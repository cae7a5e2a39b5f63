-- Worked values: where the data of pages stands, which targets there are, and classes of objects.
use Rattle.std.specs.Prelude.{◌≡◌, ℕ, List, [], ◌∷◌, ◌++◌, codes, true, false}
use Rattle.lx_types.specs.declared.object.Class.TheVariants.{Code, Private, Shared}
use Rattle.lx_types.specs.declared.object.ObjHead.{ObjHead}
use Rattle.lx_types.specs.declared.object.PageHead.{PageHead}
use Rattle.lx_types.specs.declared.object.PageKind.{PageKind}
use Rattle.lx_types.specs.declared.object.PageKind.TheVariants.{Plain, Iterated, Invalid, Zero}
use Rattle.lx_types.specs.declared.entry.EntryHead.TheVariants.{At}
use Rattle.lx_types.specs.declared.fix.FixTarget.TheVariants.{Internal, Ordinal, Named, Own}
use Rattle.lx_types.specs.declared.refusal.LxKind.TheVariants as kinds
use Rattle.lx_types.specs.Object.{class_of}
use Rattle.lx_model.specs.Reading.{fault}
use Rattle.lx_model.specs.Tables.{page_heads}
use Rattle.lx_model.specs.Module.{Targets, is_target}
use Rattle.lx_model.specs.Worked.File.{put, changed, Accepts, Refuses}

-- ---- page data

-- The worked file with iterated pages from 100h on, data pages from 80h on, a page shift, and an entry of its page
-- table with an offset, a size and flags.
abbrev paged : ℕ → ℕ → ℕ → ℕ → List ℕ
paged shift offset size flags =
    put (put (put (changed 0x2C (shift ∷ [])) 0x4C (0 ∷ 1 ∷ [])) 0x80 (0x80 ∷ [])) 0xDC (offset ∷ 0 ∷ 0 ∷ 0 ∷ size ∷ 0 ∷ flags ∷ 0 ∷ [])

abbrev page : PageKind → ℕ → ℕ → PageHead
page kind at len = record { kind = kind; at = at; len = len }

pub record WorkedPages : Type 0 where
  -- offsets count from the data pages or from the iterated pages, and are shifted
  pub plain : page_heads (paged 0 3 8 0) ≡ page Plain 0x83 8 ∷ []
  pub iterated : page_heads (paged 0 3 4 1) ≡ page Iterated 0x103 4 ∷ []
  pub shifted : page_heads (paged 4 3 8 0) ≡ page Plain 0xB0 8 ∷ []
  pub shifted_iterated : page_heads (paged 4 3 4 1) ≡ page Iterated 0x130 4 ∷ []
  -- other pages have no data, whatever stands there
  pub invalid : page_heads (paged 0 3 8 2) ≡ page Invalid 0 0 ∷ []
  pub zero : page_heads (paged 0 3 8 3) ≡ page Zero 0 0 ∷ []
  pub accepted : Accepts (paged 0 3 8 0)
  pub no_data : Accepts (paged 0 0xFF 8 2)
  pub flags_4 : Refuses (paged 0 3 8 4) (fault kinds.PageKind 0xDC)
  -- flags are a word
  pub high_flag : Refuses (put (paged 0 3 8 0) 0xE3 (1 ∷ [])) (fault kinds.PageKind 0xDC)
  -- data up to the file's end at 107h, and one byte more; a page and one byte more
  pub at_end : Accepts (paged 0 0x83 4 0)
  pub past_end : Refuses (paged 0 0x84 4 0) (fault kinds.PageData 0xDC)
  pub empty_at_end : Accepts (paged 0 0x87 0 0)
  pub empty_past_end : Refuses (paged 0 0x88 0 0) (fault kinds.PageData 0xDC)
  pub iterated_past_end : Refuses (paged 0 8 4 1) (fault kinds.PageData 0xDC)
  pub group_cut : Refuses (paged 0 3 2 1) (fault kinds.Short 0x103)

-- ---- targets

-- one object, one import module, the name f at 1, and an entry with ordinal 2
abbrev targets : Targets
targets = record { objects = 1; imports = 1; file = 0xFF ∷ 0 ∷ 1 ∷ codes "f" ++ []; procs_at = 1; entries = (2, At 1 0) ∷ [] }

pub record WorkedTargets : Type 0 where
  pub object : is_target targets (Internal 1 0x1000) ≡ true
  pub object_none : is_target targets (Internal 0 0) ≡ false
  pub object_past : is_target targets (Internal 2 0) ≡ false
  -- ordinals of other modules are not judged
  pub ordinal : is_target targets (Ordinal 1 99) ≡ true
  pub import_past : is_target targets (Ordinal 2 1) ≡ false
  pub name : is_target targets (Named 1 1) ≡ true
  pub name_past : is_target targets (Named 1 3) ≡ false
  pub name_import : is_target targets (Named 0 1) ≡ false
  pub own : is_target targets (Own 2) ≡ true
  pub own_none : is_target targets (Own 1) ≡ false
  -- in a file: an own ordinal without an entry
  pub in_file : Refuses (put (changed 0xF2 (5 ∷ [])) 0xF7 (3 ∷ [])) (fault kinds.BadTarget 0xF6)

-- ---- classes

abbrev object_with : ℕ → ObjHead
object_with flags = record { size = 1; base = 0; flags = flags; first = 0; count = 0 }

pub record WorkedClasses : Type 0 where
  pub code : class_of (object_with 0x2005) ≡ Code
  pub own_data : class_of (object_with 0x2003) ≡ Private
  pub shared_data : class_of (object_with 0x2023) ≡ Shared
  -- what nobody can write to is code, shared or not
  pub constants : class_of (object_with 0x2021) ≡ Code
