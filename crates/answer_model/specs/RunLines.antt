-- What a module line of a session asks for and gives.
use Rattle.std.specs.Prelude.{◌≡◌, List, [], ◌∷◌, ◌++◌, None}
use Rattle.link_model.specs.Link.{IsLinkOf}
use Rattle.link_model.specs.Refusal.{link_refusal}
use Rattle.session_model.specs.declared.sessions.ModLine.{ModLine}
use Rattle.session_model.specs.declared.sessions.ModLine.TheVariants.{Take, Build}
use Rattle.run_model.specs.Sources.{Source, taken, built}
use Rattle.answer_model.specs.Items.{Item, linked, module_file}
use Rattle.answer_model.specs.AskedFiles.{Asked, asked_definition, asked_inputs}
use Rattle.answer_model.specs.LinkAnswer.{input_with}
use Rattle.answer_model.specs.Words.{definition_of}

-- A file that is taken is read as a module. A module is built as `link` does it.
abbrev pub asked_line : ModLine → List Asked
asked_line (Take file) = record { kind = module_file; name = file } ∷ []
asked_line (Build stem def files) = asked_definition (definition_of def) ++ asked_inputs files

-- By what its files mean it gives a module: that of its file, or what its files link to. STEM is the module's name where
-- the definition file gives none.
abbrev pub Gives : ModLine → List Item → Source → Type 0
Gives (Take file) (linked m ∷ []) (taken parts) = parts ≡ m
Gives (Build stem def files) items (built l) = IsLinkOf (input_with stem items) l × (link_refusal l ≡ None)
Gives _ items source = ⊥
