-- A link's modules are determined by its input.
use Rattle.std.specs.Prelude.{◌≡◌, List}
use Rattle.obj_types.specs.declared.input.LinkInput.{LinkInput}
use Rattle.link_model.specs.declared.symbols.Pick.{Pick}
use Rattle.link_model.specs.Choosing.{Chosen}

abbrev pub ChosenOnce : Type 0
ChosenOnce = (input : LinkInput) (picks others : List Pick) → Chosen input picks → Chosen input others → picks ≡ others
