-- A program that links with the import library of a definition file is bound to the exports of the module that is linked
-- with that file.
use Rattle.std.specs.Prelude.{◌≡◌, ◌≢◌, ℕ, ◌<◌, ◌^◌, true, false, List, length, Option, Some, slice_get, All, Contains}
use Rattle.lx_types.specs.Names.{SameModule}
use Rattle.lx_types.specs.declared.parts.Parts.{Parts}
use Rattle.obj_types.specs.declared.definition.DefFile.{DefFile}
use Rattle.obj_types.specs.declared.definition.ModKind.TheVariants.{Library}
use Rattle.obj_types.specs.declared.input.LinkInput.{LinkInput}
use Rattle.obj_types.specs.declared.object.ObjModule.{ObjModule}
use Rattle.obj_types.specs.declared.symbol.Exp.{Exp}
use Rattle.obj_types.specs.declared.symbol.Ext.{Ext}
use Rattle.obj_types.specs.declared.symbol.Imp.{Imp}
use Rattle.link_model.specs.declared.symbols.SymDef.{SymDef}
use Rattle.link_model.specs.declared.symbols.SymDef.TheVariants.{Import}
use Rattle.link_model.specs.Choosing.{defines}
use Rattle.link_model.specs.Link.{Link, externals}
use Rattle.link_model.specs.Exports.{Export, Out}
use Rattle.link_model.specs.Symbols.{imports, Sym}
use Rattle.lx_model.specs.Gathering.{IsLibrary}
use Rattle.lx_model.specs.Library.{library_named}
use Rattle.image_model.specs.File.{file_of}
use Rattle.image_model.specs.Linked.{image_of}
use Rattle.image_model.specs.World.{entry_in}
use Rattle.implib_model.specs.Imports.{name_or, key_of, imports_in, objects_of}
use Rattle.layer_laws.specs.LinkedImages.{Links}
use Rattle.layer_laws.specs.LoadedBytes.{Holds}
use Rattle.layer_laws.specs.EntryLaws.{leads_to}

-- ---- a name is bound to a pair

-- An input has the import library of a definition file, and nothing else in it defines this name.
pub record OnlyImported (input : LinkInput) (d : DefFile) (stem name : List ℕ) : Type 0 where
  pub there : All (Contains input.libs) (objects_of (imports_in d stem))
  pub objects : All (λ m. defines m name ≡ false) input.objects
  pub libs : (m : ObjModule) → Contains input.libs m → defines m name ≡ true → Contains (objects_of (imports_in d stem)) m
  pub items : All (λ i. i.name ≢ name) input.def.imports

-- A pair names an export of the module that is linked with a definition file and a stem: by its ordinal where the file
-- gives it one, otherwise by its name.
pub record IsPairOf (d : DefFile) (stem : List ℕ) (x : Exp) (pair : Imp) : Type 0 where
  pub «module» : SameModule pair.module (name_or d.name stem)
  pub entry : pair.entry ≡ key_of x.name x.ordinal

-- A meaning is the pair of an export of this name.
pub record Binds (l : Link) (d : DefFile) (stem name : List ℕ) (meaning : Option SymDef) : Type 0 where
  pub slot : ℕ
  pub pair : Imp
  pub means : meaning ≡ Some (Import slot)
  pub stands : slice_get (imports l) slot ≡ Some pair
  pub export : Exp
  pub exported : Contains d.exports export
  pub named : export.name ≡ name
  pub of : IsPairOf d stem export pair

-- Each external of the name of an export means the pair of that export.
abbrev pub ImportsBind : Type 0
ImportsBind =
    (input : LinkInput) (l : Link) → Links input l → (d : DefFile) (stem : List ℕ) (x : Exp) → Contains d.exports x → OnlyImported input d stem x.name
    → (n : ℕ) (e : Ext) → Contains (externals l) (n, e) → e.local ≡ false → e.name ≡ x.name → Binds l d stem x.name (Sym l n e)

-- ---- the pair leads to the export

-- In every library that holds the library module that is linked with a definition file and a stem, the pair of an export
-- leads where the module's export of that name leads.
abbrev pub PairsReach : Type 0
PairsReach =
    (input : LinkInput) (l : Link) → Links input l → length (file_of (image_of l)) < 2 ^ 32 → input.def.kind ≡ Library
    → (lib : List Parts) (m : ℕ) → IsLibrary lib → m < length lib → Holds lib m l
    → (x : Exp) (pair : Imp) → Contains input.def.exports x → IsPairOf input.def input.stem x pair
    → (out : Export) → Contains (Out l) out → out.name ≡ x.name
    → entry_in lib (library_named lib pair.module) pair.entry ≡ leads_to lib m out.target
