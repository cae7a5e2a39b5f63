-- What a bound file means: the old module with one object more, whose bytes are those of the items.
-- "32-bit Linear eXecutable Module Format": "Resource Table".
use Rattle.std.specs.Prelude.{◌≡◌, ℕ, ◌<◌, ◌%◌, ◌==◌, true, false, if◌then◌else◌, List, [], ◌∷◌, ◌++◌, length, map, Some, None, All}
use Rattle.std.specs.List.{range_with_len, list_any, AllByRecursion}
use Rattle.lx_bytes.specs.LittleEndian.{AreBytes}
use Rattle.lx_types.specs.Parts.{page_at}
use Rattle.lx_types.specs.Sound.{IsNumberOf}
use Rattle.lx_types.specs.declared.bases.Bases.{Bases}
use Rattle.lx_types.specs.declared.object.ObjHead.{ObjHead}
use Rattle.lx_types.specs.declared.object.PageId.{PageId}
use Rattle.lx_types.specs.declared.object.TheConstants.{PAGE_SIZE}
use Rattle.lx_types.specs.declared.parts.Parts.{Parts}
use Rattle.lx_types.specs.declared.resource.ResSpot.{ResSpot}
use Rattle.lx_model.specs.Module.{IsRead, parts_of}
use Rattle.lx_model.specs.Library.{module_of}
use Rattle.lx_model.specs.Gathering.{IsLibrary}
use Rattle.lx_model.specs.Reach.{IsFit}
use Rattle.lx_model.specs.Fixed.{Raw, Fixed, records_of_page}
use Rattle.lx_model.specs.ModuleBytes.{page_with}
use Rattle.lx_model.specs.Resources.{Res}
use Rattle.res_model.specs.ResFile.{ItemFits, AreApart, has_key}
use Rattle.res_model.specs.declared.item.ResItem.{ResItem}
use Rattle.res_model.specs.Bound.{new_object, bound_file}
use Rattle.res_model.specs.Clear.{is_clear}
use Rattle.res_model.specs.Refusal.{bind_refusal}

-- ---- what is bound

-- No byte of the header's fields that are set is read as something else. Without items none is set.
abbrev pub SetsAreClear : List ℕ → List ResItem → Type 0
SetsAreClear file [] = Unit {0}
SetsAreClear file (i ∷ items) = is_clear file ≡ true

-- A module that was read from bytes, items that a resource file may have, and nothing that is refused of them.
pub record CanBind (m : Parts) (items : List ResItem) : Type 0 where
  pub read : IsRead m
  pub bytes : AreBytes m.file
  pub fit : AllByRecursion ItemFits items
  pub apart : AreApart items
  pub allowed : bind_refusal m.file items ≡ None
  pub clear : SetsAreClear m.file items

-- ---- what is kept

-- the pages of the objects that the module had
abbrev pub IsOldPage : Parts → PageId → Type 0
IsOldPage m p = IsNumberOf p.object (length m.objects)

-- a list goes on after another
abbrev pub GoesOn : {X : Type 0} → List X → List X → Type 0
GoesOn {X} old now = (more : List X) × (now ≡ old ++ more)

-- the objects, and one more where there are items
abbrev pub with_object : List ResItem → List ℕ → List ObjHead → List ObjHead
with_object [] file objects = objects
with_object (i ∷ items) file objects = objects ++ new_object file (i ∷ items) ∷ []

-- the library with another module in one's place
abbrev pub with_module : List Parts → ℕ → Parts → List Parts
with_module lib k m = map (λ j. if j == k then m else module_of lib j) (range_with_len 0 (length lib))

-- In whatever library the module is, fixups make the same of its old pages, where it is fit, and of the pages of any other
-- module that is fit.
abbrev pub FixedStands : Parts → Parts → Type 0
FixedStands m now =
    (lib : List Parts) (k j : ℕ) (bases : Bases) (p : PageId) (i : ℕ) →
    IsLibrary lib → k < length lib → module_of lib k ≡ m → j < length lib → IsFit lib j → (j ≡ k → IsOldPage m p) →
    Fixed (with_module lib k now) j bases p i ≡ Fixed lib j bases p i

-- ---- what is found

-- what an object of a module has from an offset on, as its file has it
abbrev pub raw_bytes : Parts → ℕ → ℕ → ℕ → List ℕ
raw_bytes m object offset len = map (λ x. Raw m (page_with object x) (x % PAGE_SIZE)) (range_with_len offset len)

-- The item is found, and its bytes lie there.
pub record IsFound (m : Parts) (i : ResItem) : Type 0 where
  pub spot : ResSpot
  pub found : Res m i.ty i.id ≡ Some spot
  pub bytes : raw_bytes m spot.object spot.offset spot.len ≡ i.bytes

-- ---- all of it

pub record Binds (m : Parts) (items : List ResItem) (now : Parts) : Type 0 where
  -- the bound file reads back
  pub read : IsRead now
  -- the old parts stand, with one object more where there are items
  pub name : now.name ≡ m.name
  pub flags : now.flags ≡ m.flags
  pub start : now.start ≡ m.start
  pub objects : now.objects ≡ with_object items m.file m.objects
  pub imports : now.imports ≡ m.imports
  pub entries : now.entries ≡ m.entries
  pub names : now.names ≡ m.names
  -- and so do the old pages, first in their tables: their kinds, places and lengths, their bytes, and their fixup records
  pub heads : GoesOn m.pages now.pages
  pub spans : GoesOn m.fix_spans now.fix_spans
  pub pages : (p : PageId) → IsOldPage m p → page_at now p ≡ page_at m p
  pub raw : (p : PageId) (i : ℕ) → IsOldPage m p → Raw now p i ≡ Raw m p i
  pub records : (p : PageId) → IsOldPage m p → records_of_page now p ≡ records_of_page m p
  pub fixed : FixedStands m now
  -- each item is found, and nothing else
  pub found : All (IsFound now) items
  pub others : (ty id : ℕ) → list_any (has_key ty id) items ≡ false → Res now ty id ≡ None

abbrev pub BoundFilesMean : Type 0
BoundFilesMean = (m : Parts) (items : List ResItem) → CanBind m items → Binds m items (parts_of (bound_file m.file items))
