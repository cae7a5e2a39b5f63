-- Files that are loaded and read in turn.
use Rattle.std.specs.Prelude.{◌≡◌, ℕ, List, [], ◌∷◌, ◌++◌, None, Result, Ok, Err, IfSome}
use Rattle.std.specs.List.{All, AllByRecursion, flat_map}
use Rattle.lx_types.specs.declared.fail.Fail.{Fail}
use Rattle.lx_types.specs.declared.fail.Fail.TheVariants as fail
use Rattle.obj_types.specs.Whole.{WholeModule}
use Rattle.lx_ports.specs.Calls.{Call, load}
use Rattle.lx_ports.specs.Files.{FilesState, IsLoadOf, after_call}
use Rattle.lx_ports.specs.declared.files.LoadFault.{LoadFault}
use Rattle.refusal_text.specs.declared.refused.Refused.{Refused}
use Rattle.refusal_text.specs.Refusals.{said_of}
use Rattle.answer_model.specs.Ends.{IsTold}
use Rattle.obj_types.specs.declared.definition.DefFile.{DefFile}
use Rattle.obj_types.specs.declared.input.LinkInput.{LinkInput}
use Rattle.obj_types.specs.declared.definition.ModKind.TheVariants.{Program}
use Rattle.obj_types.specs.Defaults.{default_def}
use Rattle.answer_model.specs.LinkAnswer.{objects_in, libraries_in}
use Rattle.answer_model.specs.Loading.{AreBegun, AreRead, IsStopped, ReadsAnswer, RefusesAnswer, file_limit}
use Rattle.answer_model.specs.AskedFiles.{Asked}
use Rattle.answer_model.specs.Items.{Item, definition}
use Rattle.tool_read.specs.Readings.{RefusedSo}
use Rattle.tool_read.specs.declared.modules.Modules.{Modules}

-- ---- loads

-- Between two moments the files had one call, a load of this name with an answer by what it has.
pub record IsOneLoad (name : List ℕ) (answer : Result (List ℕ) LoadFault) (before now : FilesState) : Type 0 where
  pub files : now ≡ after_call before (load name answer)
  pub told : IfSome before.contents (λ contents. IsLoadOf (contents name) file_limit answer)

-- They had these calls, which changed no file, each with an answer by what its name has.
pub record AreLoads (calls : List Call) (before now : FilesState) : Type 0 where
  pub files : now ≡ record { contents = before.contents; calls = before.calls ++ calls }
  pub told : IfSome before.contents (λ contents. AllByRecursion (IsTold contents) calls)

-- What a call answers that loads and reads files in turn: a value that has P with their items, or what is said of the
-- first that is refused.
pub record GivesAll {T : Type 0} (P : T → List Item → Type 0) (asked : List Asked) (calls : List Call) (value : T) : Type 0 where
  pub items : List Item
  pub read : AreRead asked calls items
  pub given : P value items

abbrev pub ReadsAll : {T : Type 0} → (T → List Item → Type 0) → List Asked → List Call → Result T (Fail Refused) → Type 0
ReadsAll P asked calls (Ok value) = GivesAll P asked calls value
ReadsAll P asked calls (Err (fail.Said refused)) = IsStopped asked calls (said_of refused)
ReadsAll P asked calls (Err fail.NoMemory) = AreBegun asked calls

-- Between two moments these files were loaded and read in turn.
pub record ReadsInTurn {T : Type 0} (P : T → List Item → Type 0) (asked : List Asked) (before now : FilesState) (result : Result T (Fail Refused))
    : Type 0 where
  pub calls : List Call
  pub loads : AreLoads calls before now
  pub reads : ReadsAll P asked calls result

-- ---- the input of a link

pub record AreModulesOf (modules : Modules) (items : List Item) : Type 0 where
  pub objects : modules.objects.items ≡ flat_map objects_in items
  pub libs : modules.libs.items ≡ flat_map libraries_in items

pub record AreWhole (modules : Modules) : Type 0 where
  pub objects : All WholeModule modules.objects.items
  pub libs : All WholeModule modules.libs.items

-- The modules of one file more.
pub record Gains (old : Modules) (item : Item) (new : Modules) : Type 0 where
  pub objects : new.objects.items ≡ old.objects.items ++ objects_in item
  pub libs : new.libs.items ≡ old.libs.items ++ libraries_in item

-- One file more is read, or something is said of it.
abbrev pub AddsInput : Asked → Result (List ℕ) LoadFault → Modules → Modules → Result (Unit {0}) (Fail Refused) → Type 0
AddsInput a answer old new (Ok _) = (item : Item) × ReadsAnswer a answer item × Gains old item new
AddsInput a answer old new (Err why) = RefusedSo (RefusesAnswer a answer) why

-- A definition file, or none: then the module is a program of which nothing else is said.
abbrev pub GivesDefinition : DefFile → List Item → Type 0
GivesDefinition d [] = d ≡ default_def Program None
GivesDefinition d (item ∷ []) = item ≡ definition d
GivesDefinition d _ = ⊥

pub record IsInputWith (stem : List ℕ) (def : DefFile) (modules : Modules) (input : LinkInput) : Type 0 where
  pub objects : input.objects ≡ modules.objects.items
  pub libs : input.libs ≡ modules.libs.items
  pub def_is : input.def ≡ def
  pub stem_is : input.stem ≡ stem
