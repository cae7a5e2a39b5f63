-- Modules that share a COMDAT, worked: what is kept, and when they clash.
use Rattle.std.specs.Prelude.{ℕ, List, [], ◌∷◌, Option, Some, None, true, false, codes}
use Rattle.obj_types.specs.declared.object.Selection.{Selection}
use Rattle.obj_types.specs.declared.object.Selection.TheVariants.{NoMatch, Any, SameSize, Exact}
use Rattle.obj_types.specs.declared.object.Seg.{Seg}
use Rattle.obj_types.specs.declared.object.ObjModule.{ObjModule}
use Rattle.obj_types.specs.declared.definition.ModKind.TheVariants.{Library}
use Rattle.obj_types.specs.declared.symbol.PubPlace.TheVariants.{In}
use Rattle.obj_types.specs.declared.input.LinkInput.{LinkInput}
use Rattle.obj_types.specs.Fresh.{empty_module}
use Rattle.obj_types.specs.Defaults.{default_def}
use Rattle.link_model.specs.declared.symbols.Pick.{Pick}
use Rattle.link_model.specs.declared.refusals.ComdatRefusal.{ComdatRefusal}
use Rattle.link_model.specs.declared.refusals.ComdatRefusal.TheVariants.{Clash}

abbrev pub code_of : ℕ → Seg
code_of len = record { name = codes "CODE32"; class = codes "CODE"; align = 5; combine = 2; wide = true; len = len; debug = false }

-- A module with one COMDAT f, of some data and a length.
abbrev pub sharing : Selection → List ℕ → ℕ → ObjModule
sharing selection content len = record empty_module {
  segs = code_of len ∷ [];
  groups = (record { name = codes "G"; members = 1 ∷ [] }) ∷ [];
  pubs = (record { name = codes "f"; local = false; place = In 1 0 }) ∷ [];
  pieces = (record { seg = 1; offset = 0; bytes = content }) ∷ [];
  comdats = (record { name = codes "f"; seg = 1; selection = selection }) ∷ [];
}

abbrev pub input_with : List ObjModule → List ObjModule → LinkInput
input_with objects libs = record { objects = objects; libs = libs; def = default_def Library None; stem = codes "s" }

-- ---- what is kept of two

abbrev pub staying_one : ObjModule
staying_one = record (sharing Any (1 ∷ []) 1) { comdats = [] }

abbrev pub taken_one : ObjModule
taken_one = record empty_module {
  segs = (record (code_of 2) { debug = true }) ∷ [];
  groups = (record { name = codes "G"; members = [] }) ∷ [];
}

-- ---- clashes of two object files: the first one's selection, data and length, those of the second, and what is told

abbrev pub object : ℕ → Pick
object k = record { lib = false; index = k }

abbrev pub library : ℕ → Pick
library k = record { lib = true; index = k }

-- The lengths differ, or the bytes, or neither.
abbrev pub one : Selection → ObjModule
one selection = sharing selection (7 ∷ []) 1

abbrev pub longer : ObjModule
longer = sharing NoMatch (7 ∷ []) 2

abbrev pub other : ObjModule
other = sharing NoMatch (8 ∷ []) 1

abbrev pub pairs : List (LinkInput × Option ComdatRefusal)
pairs =
    (input_with (one NoMatch ∷ one Any ∷ []) [], Some (Clash (codes "f") 1 2))
    ∷ (input_with (one Any ∷ longer ∷ []) [], None)
    ∷ (input_with (one SameSize ∷ longer ∷ []) [], Some (Clash (codes "f") 1 2))
    ∷ (input_with (one SameSize ∷ other ∷ []) [], None)
    ∷ (input_with (one Exact ∷ longer ∷ []) [], Some (Clash (codes "f") 1 2))
    ∷ (input_with (one Exact ∷ other ∷ []) [], Some (Clash (codes "f") 1 2))
    ∷ (input_with (one Exact ∷ one Any ∷ []) [], None)
    ∷ []

-- Of two library modules the first one's COMDAT stays, whichever are chosen.
abbrev pub two_libraries : LinkInput
two_libraries = input_with [] (one NoMatch ∷ other ∷ [])
