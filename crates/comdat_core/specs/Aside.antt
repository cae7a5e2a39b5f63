-- The lists of COMDATs of an input, beside the modules without them.
use Rattle.std.specs.Prelude.{◌≡◌, List, [], ◌∷◌, map}
use Rattle.obj_types.specs.declared.object.Comdat.{Comdat}
use Rattle.obj_types.specs.declared.object.ObjModule.{ObjModule}
use Rattle.obj_types.specs.declared.input.LinkInput.{LinkInput}
use Rattle.comdat_core.specs.declared.aside.Aside.{Aside}

-- A module without its list of COMDATs; their segments stay.
abbrev pub bare_module : ObjModule → ObjModule
bare_module m = record m { comdats = [] }

abbrev pub bare : LinkInput → LinkInput
bare input = record input { objects = map bare_module input.objects; libs = map bare_module input.libs }

abbrev pub lists_of : List ObjModule → List (List Comdat)
lists_of ms = map (λ (m : ObjModule). m.comdats) ms

pub record IsAsideOf (input : LinkInput) (aside : Aside) : Type 0 where
  pub objects : aside.objects.items ≡ lists_of input.objects
  pub libs : aside.libs.items ≡ lists_of input.libs

-- Modules with these lists, one after the other.
abbrev pub with_lists : List ObjModule → List (List Comdat) → List ObjModule
with_lists [] lists = []
with_lists (m ∷ ms) [] = m ∷ ms
with_lists (m ∷ ms) (cs ∷ lists) = record m { comdats = cs } ∷ with_lists ms lists
