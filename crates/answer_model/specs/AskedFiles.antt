-- Files that commands ask for, and those of a link: its definition file, and its object files and libraries; and modules.
use Rattle.std.specs.Prelude.{ℕ, List, [], ◌∷◌, map, Option, Some, None}
use Rattle.answer_model.specs.Items.{Kind, object_or_library, definition_file, module_file}

-- A file that a command reads, and how it takes it.
pub record Asked : Type 0 where
  pub kind : Kind
  pub name : List ℕ

abbrev pub asked_definition : Option (List ℕ) → List Asked
asked_definition None = []
asked_definition (Some name) = record { kind = definition_file; name = name } ∷ []

abbrev pub asked_inputs : List (List ℕ) → List Asked
asked_inputs names = map (λ name. record { kind = object_or_library; name = name }) names

abbrev pub asked_modules : List (List ℕ) → List Asked
asked_modules names = map (λ name. record { kind = module_file; name = name }) names
