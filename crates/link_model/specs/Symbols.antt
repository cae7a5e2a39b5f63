-- What names mean.
--
-- A name means its one definition: the public of that name that is not local, the IMPDEF, or the item of
-- IMPORTS. A name without definition that some COMDEF has is a communal. A local external means a
-- local public of its own module.
use Rattle.std.specs.Prelude.{ℕ, Bool, false, not, ◌&&◌, List, ◌++◌, Option, Some, None, map, max, if◌then◌else◌, ◌==◌, bytes_eq, filter, is_none}
use Rattle.std.specs.List.{find, filter_map, fold}
use Rattle.std.specs.Option.{option_map, option_and_then, option_or}
use Rattle.lx_types.specs.Names.{uppercase}
use Rattle.lx_types.specs.declared.entry.EntryKey.{EntryKey}
use Rattle.lx_types.specs.declared.entry.EntryKey.TheVariants.{Ordinal, Named}
use Rattle.obj_types.specs.declared.object.ObjModule.{ObjModule}
use Rattle.obj_types.specs.declared.symbol.Pub.{Pub}
use Rattle.obj_types.specs.declared.symbol.PubPlace.{PubPlace}
use Rattle.obj_types.specs.declared.symbol.PubPlace.TheVariants as places
use Rattle.obj_types.specs.declared.symbol.Common.{Common}
use Rattle.obj_types.specs.declared.symbol.Ext.{Ext}
use Rattle.obj_types.specs.declared.symbol.Imp.{Imp}
use Rattle.link_model.specs.declared.symbols.SymDef.{SymDef}
use Rattle.link_model.specs.declared.symbols.SymDef.TheVariants as means
use Rattle.link_model.specs.Appearance.{firsts_by, place_by}
use Rattle.link_model.specs.Link.{Link, chosen_module, of_modules, externals}

-- ---- definitions

-- What a definition says: where a public is, or the pair of an import.
pub data Meaning : Type 0 where
  Public : (place : PubPlace) → Meaning
  Imported : (pair : Imp) → Meaning

-- A definition, with the number of the chosen module that has it, or 0 for the definition file.
pub record Definition : Type 0 where
  pub name : List ℕ
  pub by : ℕ
  pub meaning : Meaning

abbrev pub of_public : ℕ → Pub → Definition
of_public n p = record { name = p.name; by = n; meaning = Public p.place }

abbrev pub of_import : ℕ → Imp → Definition
of_import n i = record { name = i.name; by = n; meaning = Imported i }

-- The definitions in a module: its publics that are not local, then its IMPDEFs.
abbrev pub definitions_in : ℕ → ObjModule → List Definition
definitions_in n m = map (of_public n) (filter (λ p. not p.local) m.pubs) ++ map (of_import n) m.imports

-- All definitions: in chosen order, the definition file's IMPORTS last.
abbrev pub definitions : Link → List Definition
definitions l = of_modules l definitions_in ++ map (of_import 0) l.def.imports

unfoldable pub definition_of : Link → List ℕ → Option Definition
definition_of l name = find (λ d. bytes_eq d.name name) (definitions l)

-- ---- imports

abbrev pub same_entry : EntryKey → EntryKey → Bool
same_entry (Ordinal a) (Ordinal b) = a == b
same_entry (Named a) (Named b) = bytes_eq a b
same_entry (Ordinal a) (Named b) = false
same_entry (Named a) (Ordinal b) = false

-- Two names mean one module, in any case of letters.
abbrev pub same_module : List ℕ → List ℕ → Bool
same_module a b = bytes_eq (uppercase a) (uppercase b)

-- Import pairs are equal where they name one module and one entry, the latter byte for byte.
abbrev pub same_pair : Imp → Imp → Bool
same_pair a b = same_module a.module b.module && same_entry a.entry b.entry

-- What tells imports apart: the name that is defined, the module in upper case, and the entry.
pub record ImportKey : Type 0 where
  pub name : List ℕ
  pub from : List ℕ
  pub entry : EntryKey

abbrev pub import_key : Imp → ImportKey
import_key i = record { name = i.name; from = uppercase i.module; entry = i.entry }

abbrev pub same_import : ImportKey → ImportKey → Bool
same_import a b = bytes_eq a.name b.name && bytes_eq a.from b.from && same_entry a.entry b.entry

abbrev pub pair_of : Meaning → Option Imp
pair_of (Public place) = None
pair_of (Imported pair) = Some pair

-- The import pairs that the link knows, in order of definition. Pairs that are equal count once under one
-- name, in the first spelling. A pair's slot is its place here, from 0.
unfoldable pub imports : Link → List Imp
imports l =
    firsts_by same_import import_key (filter_map (λ d. pair_of d.meaning) (definitions l))

-- ---- communals

abbrev pub comdef_of : Ext → Option (List ℕ × Common)
comdef_of e = if e.local then None else option_map (λ c. (e.name, c)) e.common

-- All COMDEFs, in chosen order.
abbrev pub comdefs : Link → List (List ℕ × Common)
comdefs l = filter_map (λ q. comdef_of q.1) (externals l)

-- A communal is as long as the longest COMDEF of its name, and far where the first one is.
abbrev pub greatest_len : Link → List ℕ → ℕ
greatest_len l name = fold (λ len c. max len c.1.len) 0 (filter (λ c. bytes_eq c.0 name) (comdefs l))

-- The communals: each name without definition that a COMDEF has, in order of its first COMDEF. A communal's
-- slot is its place here, from 0.
unfoldable pub commons : Link → List (List ℕ × Common)
commons l =
    map (λ c. (c.0, record { far = c.1.far; len = greatest_len l c.0 }))
    (firsts_by bytes_eq (λ c. c.0) (filter (λ c. is_none (definition_of l c.0)) (comdefs l)))

-- ---- meanings

abbrev pub at_place : ℕ → PubPlace → SymDef
at_place n (places.In seg offset) = means.In n seg offset
at_place n (places.Const value) = means.Const value

abbrev pub by_definition : Link → Definition → Meaning → Option SymDef
by_definition l d (Public place) = Some (at_place d.by place)
by_definition l d (Imported pair) =
    option_map (λ slot. means.Import slot) (place_by same_import import_key (import_key pair) (imports l))

-- The meaning of a name that is not local.
unfoldable pub global : Link → List ℕ → Option SymDef
global l name =
    option_or (option_and_then (λ d. by_definition l d d.meaning) (definition_of l name))
    (option_map (λ slot. means.Common slot) (place_by bytes_eq (λ c. c.0) name (commons l)))

-- The meaning of a local name of module n: the first local public of that name in the module.
abbrev pub local_meaning : Link → ℕ → List ℕ → Option SymDef
local_meaning l n name =
    option_and_then (λ m. option_map (λ p. at_place n p.place) (find (λ p. p.local && bytes_eq p.name name) m.pubs)) (chosen_module l n)

-- The meaning of an external of module n.
unfoldable pub Sym : Link → ℕ → Ext → Option SymDef
Sym l n e = if e.local then local_meaning l n e.name else global l e.name
