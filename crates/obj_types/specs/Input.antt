-- When all that a link is given is whole.
use Rattle.std.specs.Prelude.{◌≢◌, ℕ, ◌+◌, ◌<◌, ◌^◌, [], length}
use Rattle.std.specs.List.{All, sum_by}
use Rattle.obj_types.specs.declared.object.ObjModule.{ObjModule}
use Rattle.obj_types.specs.declared.input.LinkInput.{LinkInput}
use Rattle.obj_types.specs.Whole.{WholeModule}
use Rattle.obj_types.specs.Definition.{WholeDef}

-- The module itself, its externals and its imports.
abbrev pub counted : ObjModule → ℕ
counted m = 1 + length m.exts + length m.imports

abbrev pub total : LinkInput → ℕ
total input = sum_by counted input.objects + sum_by counted input.libs + length input.def.imports

pub record WholeInput (input : LinkInput) : Type 0 where
  pub objects : All WholeModule input.objects
  pub libs : All WholeModule input.libs
  pub def : WholeDef input.def
  pub stem : input.stem ≢ []
  pub few : total input < 2 ^ 32
