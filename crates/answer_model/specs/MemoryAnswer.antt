-- What `memory MODULE ..` comes to: what the first module holds in memory once it is loaded, or started, and each that it reaches with
-- it; or why the modules are no library, or why it is not loaded. Nothing is saved.
use Rattle.std.specs.Prelude.{◌≡◌, ◌⊎◌, ℕ, ◌+◌, ◌*◌, List, [], ◌∷◌, ◌++◌, codes, decimal, Option, Some, None}
use Rattle.std.specs.List.{enumerate_from, flat_map}
use Rattle.lx_types.specs.Escaped.{hex_address}
use Rattle.lx_types.specs.declared.object.TheConstants.{PAGE_SIZE}
use Rattle.lx_types.specs.declared.parts.Parts.{Parts}
use Rattle.lx_model.specs.Gathering.{LibraryFault}
use Rattle.lx_model.specs.declared.library.LibraryRefusal.{LibraryRefusal}
use Rattle.load_model.specs.Modules.{Library}
use Rattle.session_model.specs.Text.{line_of}
use Rattle.dump_model.specs.Lines.{name_word}
use Rattle.memory_model.specs.Memory.{IsMemory, RefusesMemory}
use Rattle.memory_model.specs.declared.held.MemoryRefusal.{MemoryRefusal}
use Rattle.memory_model.specs.declared.held.MemoryRefusal.TheVariants.{NoModule, NoEntry, ForwardLoop, Gate286, ArenaFull}
use Rattle.memory_model.specs.declared.held.ModuleMemory.{ModuleMemory}
use Rattle.memory_model.specs.declared.held.ObjectMemory.{ObjectMemory}
use Rattle.memory_model.specs.declared.held.PageMemory.{PageMemory}
use Rattle.memory_model.specs.declared.held.PageMemory.TheVariants.{Invalid, Held}
use Rattle.answer_model.specs.FileRefusals.{field}
use Rattle.answer_model.specs.ImageText.{image_text}
use Rattle.answer_model.specs.SessionRefusals.{library_text}
use Rattle.answer_model.specs.Outcome.{Outcome, shown, refused}
use Rattle.answer_model.specs.Items.{Item, linked}

-- ---- text

-- `object M K BASE size S flags F`: object K of the module M, at its base
unfoldable pub object_line : List ℕ → ObjectMemory → List ℕ
object_line name o =
    line_of
    (codes "object" ∷ name_word name ∷ decimal o.number ∷ hex_address o.base ∷ codes "size" ∷ decimal o.size ∷ codes "flags" ∷ hex_address o.flags
    ∷ [])

-- `AAAAAAAA: invalid`
unfoldable pub invalid_line : ℕ → List ℕ
invalid_line at = hex_address at ++ (codes ": invalid" ++ 10 ∷ [])

-- a page at an address
abbrev pub page_text : ℕ → PageMemory → List ℕ
page_text at Invalid = invalid_line at
page_text at (Held bytes) = image_text at bytes

-- page p, from 0, of an object at this base
abbrev pub numbered_page_text : ℕ → ℕ × PageMemory → List ℕ
numbered_page_text base q = page_text (base + q.0 * PAGE_SIZE) q.1

abbrev pub object_text : List ℕ → ObjectMemory → List ℕ
object_text name o = object_line name o ++ flat_map (numbered_page_text o.base) (enumerate_from 0 o.pages)

abbrev pub module_text : ModuleMemory → List ℕ
module_text m = flat_map (object_text m.name) m.objects

abbrev pub memory_text : List ModuleMemory → List ℕ
memory_text found = flat_map module_text found

-- ---- refusals, which are told under the name of the first module's file

abbrev pub first_name : List (List ℕ) → List ℕ
first_name [] = []
first_name (name ∷ names) = name

abbrev pub unloaded_text : MemoryRefusal → List ℕ
unloaded_text NoModule = codes "NoModule"
unloaded_text NoEntry = codes "NoEntry"
unloaded_text ForwardLoop = codes "ForwardLoop"
unloaded_text Gate286 = codes "Gate286"
unloaded_text (ArenaFull of object size) = codes "ArenaFull" ++ (field of ++ (field object ++ field size))

-- ---- the answer

-- The first module was brought in, and this is in memory.
pub record ShowsMemory (lib : Library) (outcome : Outcome) : Type 0 where
  pub found : List ModuleMemory
  pub is : IsMemory lib found
  pub told : outcome ≡ shown (memory_text found)

-- It was not.
pub record RefusesLoad (name : List ℕ) (lib : Library) (outcome : Outcome) : Type 0 where
  pub why : MemoryRefusal
  pub refuses : RefusesMemory lib why
  pub told : outcome ≡ refused name (unloaded_text why)

-- The modules have no fault as a library, or this one.
abbrev pub ShowsModules : List ℕ → Library → Option LibraryRefusal → Outcome → Type 0
ShowsModules name lib (Some why) outcome = outcome ≡ refused name (library_text why)
ShowsModules name lib None outcome = ShowsMemory lib outcome ⊎ RefusesLoad name lib outcome

abbrev pub modules_in : Item → List Parts
modules_in (linked m) = m ∷ []
modules_in _ = []

abbrev pub MemoryAnswer : List ℕ → List Item → Outcome → Type 0
MemoryAnswer name items outcome = let lib = flat_map modules_in items in ShowsModules name lib (LibraryFault lib) outcome
