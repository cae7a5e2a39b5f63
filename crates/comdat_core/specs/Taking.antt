-- COMDATs that are lent, and which of them are taken out, by a table of the first one of each name.
use Rattle.std.specs.Prelude.{◌≡◌, ℕ, List, [], ◌∷◌, ◌++◌, Option, Some, None, map}
use Rattle.std.specs.Global.{Vec}
use Rattle.std.specs.List.{find, flat_map, enumerate_from, AllByRecursion}
use Rattle.std.specs.Option.{option_map}
use Rattle.obj_types.specs.declared.object.Comdat.{Comdat}
use Rattle.obj_types.specs.declared.object.ObjModule.{ObjModule}
use Rattle.link_model.specs.Kept as kept
use Rattle.link_model.specs.Clash as rules
use Rattle.name_table.specs.Entries.{value_named, with_entry}
use Rattle.comdat_core.specs.declared.taking.Owned.{Owned}
use Rattle.comdat_core.specs.declared.taking.Placed.{Placed}
use Rattle.comdat_core.specs.declared.taking.Taken.{Taken}

-- ---- as the rules see them

abbrev pub shown : Owned → rules.Owned
shown x = record { owner = x.owner.now; comdat = x.comdat.now }

abbrev pub placed : Placed → ℕ × rules.Owned
placed x = (x.place, shown x.own)

abbrev pub comdat_of : Taken → Comdat
comdat_of t = t.own.comdat.now

-- ---- the first of each name

-- The COMDATs that modules share, each with its module's place.
abbrev pub owned_in : List ObjModule → List (ℕ × rules.Owned)
owned_in ms = flat_map rules.owned_by (enumerate_from 0 ms)

-- The first of these COMDATs that has a name.
abbrev pub first_called : List ℕ → List (ℕ × rules.Owned) → Option (ℕ × rules.Owned)
first_called name all = find (λ x. kept.is_called name x.1.comdat) all

-- The table has the first of these COMDATs of each name.
abbrev pub AreFirsts : List (ℕ × rules.Owned) → List (List ℕ × Placed) → Type 0
AreFirsts all table = (name : List ℕ) → option_map placed (value_named name table) ≡ first_called name all

-- One more COMDAT, by what the table has of its name: it goes into the table, or is taken out.
abbrev pub table_with : Option Placed → List (List ℕ × Placed) → Placed → List (List ℕ × Placed)
table_with None table next = with_entry table next.own.comdat.now.name next
table_with (Some first) table next = table

abbrev pub taken_with : Option Placed → List Taken → Placed → List Taken
taken_with None out next = out
taken_with (Some first) out next = out ++ record { own = next.own; first = first } ∷ []

-- ---- what is taken out of a module

-- Of these COMDATs the first of the name stays.
abbrev pub HasFirst : List (ℕ × rules.Owned) → Taken → Type 0
HasFirst all t = first_called (comdat_of t).name all ≡ Some (placed t.first)

-- These are taken out of a module after others, and their firsts are among these COMDATs.
pub record IsListOf (all : List (ℕ × rules.Owned)) (before : List ObjModule) (m : ObjModule) (out : List Taken) : Type 0 where
  pub comdats : map comdat_of out ≡ kept.taken before m
  pub owners : AllByRecursion (λ t. t.own.owner.now ≡ m) out
  pub firsts : AllByRecursion (HasFirst all) out

-- The same of each of these modules, which are after others.
abbrev pub AreListsOf : List (ℕ × rules.Owned) → List ObjModule → List ObjModule → List (Vec Taken) → Type 0
AreListsOf all before [] [] = Unit {0}
AreListsOf all before [] (out ∷ outs) = ⊥
AreListsOf all before (m ∷ ms) [] = ⊥
AreListsOf all before (m ∷ ms) (out ∷ outs) = IsListOf all before m out.items × AreListsOf all (before ++ m ∷ []) ms outs

-- A table by which one more module was seen, and what was taken out of it.
pub record IsSeen (before : List ObjModule) (m : ObjModule) (table : List (List ℕ × Placed)) (out : List Taken) : Type 0 where
  pub firsts : AreFirsts (owned_in (before ++ m ∷ [])) table
  pub list : IsListOf (owned_in (before ++ m ∷ [])) before m out

-- The same of several modules.
pub record AreSeen (before ms : List ObjModule) (table : List (List ℕ × Placed)) (outs : List (Vec Taken)) : Type 0 where
  pub firsts : AreFirsts (owned_in (before ++ ms)) table
  pub lists : AreListsOf (owned_in (before ++ ms)) before ms outs
