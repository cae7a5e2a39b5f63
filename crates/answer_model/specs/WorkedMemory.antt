-- Worked values: the text of what modules hold, and what `memory` comes to for small modules.
use Rattle.std.specs.Prelude.{◌≡◌, ℕ, List, [], ◌∷◌, ◌++◌, codes, None, Some}
use Rattle.lx_types.specs.declared.parts.Parts.{Parts}
use Rattle.load_model.specs.Samples.{code, own_data, library, object}
use Rattle.memory_model.specs.declared.held.MemoryRefusal.TheVariants.{ArenaFull}
use Rattle.memory_model.specs.declared.held.PageMemory.TheVariants.{Invalid, Held}
use Rattle.memory_model.specs.declared.held.ModuleMemory.{ModuleMemory}
use Rattle.answer_model.specs.Items.{linked}
use Rattle.answer_model.specs.MemoryAnswer.{MemoryAnswer, first_name, memory_text, unloaded_text}
use Rattle.answer_model.specs.Outcome.{refused, shown}
use Rattle.answer_model.specs.Words.{command_of, memory}

abbrev pub ln : List ℕ → List ℕ
ln text = text ++ 10 ∷ []

-- ---- a module of three objects, one of them empty, one with an invalid page

abbrev pub seventeen : List ℕ
seventeen = codes "ABCDEFGHIJKLMNOPQ"

abbrev pub three_objects : ModuleMemory
three_objects = record {
  name = codes "A b";
  objects = record { number = 1; base = 0x10000000; size = 17; flags = code; pages = Held seventeen ∷ [] }
      ∷ record { number = 2; base = 0x10010000; size = 0; flags = own_data; pages = [] }
      ∷ record { number = 3; base = 0x10020000; size = 4098; flags = own_data; pages = Invalid ∷ Held (0xAB ∷ 0 ∷ []) ∷ [] } ∷ [];
}

-- ---- two libraries that are linked at one base, the first of which imports the other

abbrev pub importing : Parts
importing = record (library (codes "X") (object code 2 0x10000000 ∷ [])) { imports = codes "y" ∷ [] }

abbrev pub imported : Parts
imported = library (codes "Y") (object code 1 0x10000000 ∷ [])

pub record WorkedMemory : Type 0 where
  pub words : command_of (codes "memory" ∷ codes "a" ∷ codes "b" ∷ []) ≡ Some (memory (codes "a" ∷ codes "b" ∷ []))
  pub no_words : command_of (codes "memory" ∷ []) ≡ None
  pub lines : memory_text (three_objects ∷ [])
      ≡ ln (codes "object A%20b 1 10000000 size 17 flags 00002005")
      ++ ln (codes "10000000: 41 42 43 44 45 46 47 48 49 4A 4B 4C 4D 4E 4F 50")
      ++ ln (codes "10000010: 51")
      ++ ln (codes "object A%20b 2 10010000 size 0 flags 00002003")
      ++ ln (codes "object A%20b 3 10020000 size 4098 flags 00002003")
      ++ ln (codes "10020000: invalid")
      ++ ln (codes "10021000: AB 00")
  pub both :
      MemoryAnswer (first_name (codes "x.dll" ∷ codes "y.dll" ∷ [])) (linked importing ∷ linked imported ∷ [])
      (shown (ln (codes "object Y 1 10000000 size 1 flags 00002005") ++ ln (codes "10000000: 00")
      ++ ln (codes "object X 1 10010000 size 2 flags 00002005") ++ ln (codes "10010000: 00 00")))
  pub not_given : MemoryAnswer (codes "x.dll") (linked importing ∷ []) (refused (codes "x.dll") (codes "NoModule"))
  pub one_name : MemoryAnswer (codes "x.dll") (linked imported ∷ linked imported ∷ []) (refused (codes "x.dll") (codes "NameTwice 0 1"))
  pub no_room : unloaded_text (ArenaFull 1 2 65537) ≡ codes "ArenaFull 1 2 65537"
