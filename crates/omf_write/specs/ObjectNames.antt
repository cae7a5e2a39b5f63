-- The names of an object file that is written, each once. "96h LNAMES".
use Rattle.std.specs.Prelude.{ℕ, ◌+◌, List, [], ◌∷◌, ◌++◌, map}
use Rattle.std.specs.List.{flat_map, position_or_len}
use Rattle.name_table.specs.Entries.{is_named, with_entry}
use Rattle.obj_types.specs.declared.object.Seg.{Seg}
use Rattle.obj_types.specs.declared.object.Group.{Group}
use Rattle.obj_types.specs.declared.object.ObjModule.{ObjModule}

-- names in a table by first appearance, in which their value says nothing
abbrev pub NameList : Type 0
NameList = List (List ℕ × ℕ)

abbrev pub with_names : NameList → List (List ℕ) → NameList
with_names entries [] = entries
with_names entries (name ∷ rest) = with_names (with_entry entries name 0) rest

-- The empty name, and the names of segments, of their classes and of groups.
abbrev pub seg_names : List Seg → List (List ℕ)
seg_names segs = flat_map (λ (s : Seg). s.name ∷ s.class ∷ []) segs

abbrev pub group_names : List Group → List (List ℕ)
group_names groups = map (λ (g : Group). g.name) groups

abbrev pub names_of : ObjModule → NameList
names_of m = with_names [] ([] ∷ seg_names m.segs ++ group_names m.groups)

abbrev pub texts : NameList → List (List ℕ)
texts entries = map (λ (e : List ℕ × ℕ). e.0) entries

-- A name's index, which counts from 1.
abbrev pub name_index : NameList → List ℕ → ℕ
name_index entries name = position_or_len (is_named name) entries + 1
