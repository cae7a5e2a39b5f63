-- What holds of the modules G1 to G64, by rule over their numbers and their 2,048 references.
use Rattle.std.specs.Prelude.{◌≡◌, ℕ, ◌≤◌, ◌<◌, ◌^◌, List, length, None}
use Rattle.def_model.specs.Reading.{Def}
use Rattle.load_model.specs.declared.deeds.Fresh.{Fresh}
use Rattle.obj_types.specs.Input.{WholeInput}
use Rattle.omf_model.specs.Object.{Obj}
use Rattle.omf_write.specs.ObjectBytes.{object_bytes}
use Rattle.omf_write.specs.Writable.{IsWritable}
use Rattle.link_model.specs.Link.{Link, IsLinkOf}
use Rattle.link_model.specs.Refusal.{link_refusal}
use Rattle.image_model.specs.File.{file_of}
use Rattle.image_model.specs.Linked.{image_of}
use Rattle.lx_model.specs.Gathering.{LibraryFault}
use Rattle.lx_model.specs.Reach.{IsFit}
use Rattle.gen_model.specs.Modules.{gen_object, gen_input, gen_definition, definition_text}
use Rattle.gen_model.specs.Sums.{AreLinked, AreFirstPlaces, AreTotals, library_of}
use Rattle.gen_model.specs.declared.totals.Totals.{Totals}

abbrev pub IsOne : ℕ → Type 0
IsOne k = (1 ≤ k) × (k ≤ 64)

-- ---- of each module alone

-- Its object module can be written as an object file, and its input is whole.
abbrev pub ObjectsAreWritable : Type 0
ObjectsAreWritable = (k : ℕ) → IsOne k → IsWritable (gen_object k)

-- So it has one, which is read as it.
abbrev pub ObjectsHaveFiles : Type 0
ObjectsHaveFiles = (k : ℕ) → IsOne k → Obj (object_bytes (gen_object k)) (gen_object k)

abbrev pub InputsAreWhole : Type 0
InputsAreWhole = (k : ℕ) → IsOne k → WholeInput (gen_input k)

-- Its definition file means what is linked.
abbrev pub DefinitionsMean : Type 0
DefinitionsMean = (k : ℕ) → IsOne k → Def (definition_text k) (gen_definition k)

-- No link of it is refused.
abbrev pub InputsLink : Type 0
InputsLink = (k : ℕ) (l : Link) → IsOne k → IsLinkOf (gen_input k) l → link_refusal l ≡ None

-- A place in the file of a link has 32 bits.
abbrev pub IsShort : Link → Type 0
IsShort l = length (file_of (image_of l)) < 2 ^ 32

-- So it is in the file of every link of it.
abbrev pub LinkedFilesAreShort : Type 0
LinkedFilesAreShort = (k : ℕ) (l : Link) → IsOne k → IsLinkOf (gen_input k) l → IsShort l

-- ---- of all of them

-- The links of the first modules, up to 64.
pub record AreFirst (links : List Link) : Type 0 where
  pub linked : AreLinked 1 links
  pub few : length links ≤ 64

-- They are a library,
abbrev pub FirstGather : Type 0
FirstGather = (links : List Link) → AreFirst links → LibraryFault (library_of links) ≡ None

-- in which each can be loaded,
abbrev pub FirstAreFit : Type 0
FirstAreFit = (links : List Link) (m : ℕ) → AreFirst links → m < length links → IsFit (library_of links) m

-- and there is a place for each.
abbrev pub FirstHavePlaces : Type 0
FirstHavePlaces = (links : List Link) → AreFirst links → (fresh : List Fresh) × AreFirstPlaces (library_of links) fresh

-- So there is something to tell of each number of them.
abbrev pub FirstHaveTotals : Type 0
FirstHaveTotals = (count : ℕ) → IsOne count → (t : Totals) × AreTotals count t
