-- The link of modules that are lent.
use Rattle.std.specs.Prelude.{List, None, map}
use Rattle.std.specs.Borrow.{Bor}
use Rattle.obj_types.specs.declared.object.ObjModule.{ObjModule}
use Rattle.obj_types.specs.declared.input.LinkInput.{LinkInput}
use Rattle.link_model.specs.Link.{Link}

abbrev pub link_with : LinkInput → List (Bor ObjModule) → Link
link_with input modules = record { modules = map (λ m. m.now) modules; def = input.def; stem = input.stem; clash = None }
