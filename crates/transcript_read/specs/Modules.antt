-- A table of the modules of a library by their names.
use Rattle.std.specs.Prelude.{◌≡◌, ℕ, ◌<◌, List, length, Some, None}
use Rattle.load_model.specs.Modules.{Library}
use Rattle.session_model.specs.Transcript.{module_text}
use Rattle.name_table.specs.Entries.{value_named}

-- What a table says of a name, of which the first n numbers of all have one each.
pub record NamesSome (text : ℕ → List ℕ) (all n : ℕ) (table : List (List ℕ × ℕ)) : Type 0 where
  pub named : (word : List ℕ) (m : ℕ) → value_named word table ≡ Some m → (m < all) × (word ≡ text m)
  pub none : (word : List ℕ) → value_named word table ≡ None → (m : ℕ) → m < n → word ≡ text m → ⊥

-- the first n modules
abbrev pub NamesFirst : Library → ℕ → List (List ℕ × ℕ) → Type 0
NamesFirst lib n table = NamesSome (module_text lib) (length lib) n table

abbrev pub NamesAll : Library → List (List ℕ × ℕ) → Type 0
NamesAll lib table = NamesFirst lib (length lib) table
