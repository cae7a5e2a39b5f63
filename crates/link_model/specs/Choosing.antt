-- Which modules a link chooses.
--
-- All object files are chosen, in order. Then, while an external name has no definition among the
-- chosen modules and the definition file, the first library module that defines such a name is
-- chosen next.
use Rattle.std.specs.Prelude.{◌≡◌, ℕ, ◌<◌, ◌≤◌, Bool, true, false, not, ◌&&◌, ◌||◌, List, map, length, take, Option, None, if◌then◌else◌, ◌==◌, slice_get, bytes_eq, filter}
use Rattle.std.specs.List.{list_any, find, filter_map, flat_map, enumerate_from}
use Rattle.std.specs.Option.{option_map}
use Rattle.obj_types.specs.declared.object.ObjModule.{ObjModule}
use Rattle.obj_types.specs.declared.definition.DefFile.{DefFile}
use Rattle.obj_types.specs.declared.input.LinkInput.{LinkInput}
use Rattle.link_model.specs.declared.symbols.Pick.{Pick}

-- The names that a module asks other modules for: its externals, the local ones aside.
abbrev pub wanted : ObjModule → List (List ℕ)
wanted m = map (λ e. e.name) (filter (λ e. not e.local) m.exts)

-- A module defines a name for other modules by a public that is not local, or by an IMPDEF.
abbrev pub defines : ObjModule → List ℕ → Bool
defines m name =
    list_any (λ p. not p.local && bytes_eq p.name name) m.pubs || list_any (λ i. bytes_eq i.name name) m.imports

-- A name has a definition among these modules or among the definition file's IMPORTS.
abbrev pub is_defined : List ObjModule → DefFile → List ℕ → Bool
is_defined modules def name =
    list_any (λ m. defines m name) modules || list_any (λ i. bytes_eq i.name name) def.imports

-- The names that these modules want and that have no definition. A COMDEF is no definition.
abbrev pub undefined : List ObjModule → DefFile → List (List ℕ)
undefined modules def = filter (λ name. not (is_defined modules def name)) (flat_map wanted modules)

-- The module of a pick.
abbrev pub module_of : LinkInput → Pick → Option ObjModule
module_of input pick = slice_get (if pick.lib then input.libs else input.objects) pick.index

abbrev pub modules_of : LinkInput → List Pick → List ObjModule
modules_of input picks = filter_map (module_of input) picks

-- Library module k is among the picks.
abbrev pub is_picked : List Pick → ℕ → Bool
is_picked picks k = list_any (λ pick. pick.lib && pick.index == k) picks

-- A library module is drawn where it defines a name that the chosen modules still want.
abbrev pub is_drawn : LinkInput → List Pick → ObjModule → Bool
is_drawn input picks m = list_any (defines m) (undefined (modules_of input picks) input.def)

-- The library module that is chosen after these picks: the first, in order of files and of modules
-- within a file, that is not among them and is drawn.
abbrev pub next_pick : LinkInput → List Pick → Option Pick
next_pick input picks =
    option_map (λ q. record { lib = true; index = q.0 })
    (find (λ q. not (is_picked picks q.0) && is_drawn input picks q.1) (enumerate_from 0 input.libs))

-- The object files, in order.
abbrev pub object_picks : LinkInput → List Pick
object_picks input = map (λ q. record { lib = false; index = q.0 }) (enumerate_from 0 input.objects)

-- These are the chosen modules of a link, in the order in which they are chosen. The module at place k
-- of the list is chosen module k + 1.
pub record Chosen (input : LinkInput) (picks : List Pick) : Type 0 where
  pub begins : take (length input.objects) picks ≡ object_picks input
  pub grows : (k : ℕ) → length input.objects ≤ k → k < length picks → next_pick input (take k picks) ≡ slice_get picks k
  pub ends : next_pick input picks ≡ None
