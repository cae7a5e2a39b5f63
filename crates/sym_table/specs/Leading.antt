-- Choosing by an index of names: which library module each wanted name waits for.
use Rattle.std.specs.Prelude.{ℕ, Bool, not, ◌&&◌, ◌==◌, List, Option, Some, None, if◌then◌else◌, is_some, bytes_eq}
use Rattle.std.specs.List.{list_any, position_from}
use Rattle.obj_types.specs.declared.object.ObjModule.{ObjModule}
use Rattle.obj_types.specs.declared.input.LinkInput.{LinkInput}
use Rattle.obj_types.specs.declared.symbol.Ext.{Ext}
use Rattle.obj_types.specs.declared.symbol.Imp.{Imp}
use Rattle.obj_types.specs.declared.symbol.Pub.{Pub}
use Rattle.link_model.specs.declared.symbols.Pick.{Pick}
use Rattle.link_model.specs.Words.{option_any}
use Rattle.link_model.specs.Choosing.{defines, undefined, modules_of}
use Rattle.name_table.specs.Entries.{value_named}

-- The first of these library modules that defines a name, by its place.
abbrev pub leader : List ObjModule → List ℕ → Option ℕ
leader libraries name = position_from (λ m. defines m name) 0 libraries

-- A name that the chosen modules still want has library module k as the first that defines it.
abbrev pub waits : LinkInput → List Pick → ℕ → Bool
waits input picks k =
    list_any (λ name. option_any (λ f. f == k) (leader input.libs name)) (undefined (modules_of input picks) input.def)

-- A public that other modules see has the name.
abbrev pub has_public : List Pub → List ℕ → Bool
has_public publics name = list_any (λ p. not p.local && bytes_eq p.name name) publics

abbrev pub has_import : List Imp → List ℕ → Bool
has_import imports name = list_any (λ i. bytes_eq i.name name) imports

-- The value, where the test holds.
abbrev pub given : Bool → ℕ → Option ℕ
given test value = if test then Some value else None

-- The library module that an external waits for, by the tables of leaders and of defined names.
abbrev pub awaited : List (List ℕ × ℕ) → List (List ℕ × ℕ) → Ext → Option ℕ
awaited leaders defined e =
    if e.local then None else (if is_some (value_named e.name defined) then None else value_named e.name leaders)

abbrev pub awaits : List (List ℕ × ℕ) → List (List ℕ × ℕ) → ℕ → Ext → Bool
awaits leaders defined k e = option_any (λ f. f == k) (awaited leaders defined e)
