-- What the definitions of answers say together.
use Rattle.std.specs.Prelude.{◌≡◌, ◌⊎◌, ℕ, List, [], ◌∷◌, Option, Some}
use Rattle.lx_bytes.specs.LittleEndian.{AreBytes}
use Rattle.lx_ports.specs.Files.{Contents}
use Rattle.obj_types.specs.declared.object.ObjModule.{ObjModule}
use Rattle.omf_model.specs.Object.{Obj}
use Rattle.show_model.specs.Shows.{IsShown}
use Rattle.show_model.specs.declared.fault.ShowFault.{ShowFault}
use Rattle.answer_model.specs.Answer.{Answer}
use Rattle.answer_model.specs.Outcome.{Saved}
use Rattle.answer_model.specs.Words.{Command, command_of, gen, show}
use Rattle.answer_model.specs.declared.said.Said.{Said}

-- Both are object files that mean one module.
abbrev pub MeanOne : List ℕ → List ℕ → Type 0
MeanOne bytes others = (m : ObjModule) × Obj bytes m × Obj others m

-- Two files of one name, of which the bytes are the same, or the object module that they mean.
pub record IsAlike (saved other : Saved) : Type 0 where
  pub name : saved.name ≡ other.name
  pub bytes : (saved.bytes ≡ other.bytes) ⊎ MeanOne saved.bytes other.bytes

abbrev pub AreAlike : List Saved → List Saved → Type 0
AreAlike [] [] = Unit {0}
AreAlike (saved ∷ saves) (other ∷ others) = IsAlike saved other × AreAlike saves others
AreAlike _ _ = ⊥

-- The files of a command are the same. Of `gen` any spelling of its object files is right.
abbrev pub AreSameFiles : Option Command → List Saved → List Saved → Type 0
AreSameFiles (Some (gen count prefix)) saves others = AreAlike saves others
AreSameFiles _ saves others = saves ≡ others

-- What is said is the same. Of `show` any text in its form is right, and the status is one.
abbrev pub SayTheSame : Option Command → Said → Said → Type 0
SayTheSame (Some (show file)) said other = said.status ≡ other.status
SayTheSame _ said other = said ≡ other

-- Two answers to the same words over the same contents are one.
pub record AreSame (command : Option Command) (saves others : List Saved) (said other : Said) : Type 0 where
  pub files : AreSameFiles command saves others
  pub answer : SayTheSame command said other

abbrev pub OneAnswer : Type 0
OneAnswer =
    (words : List (List ℕ)) (contents : Contents) (saves others : List Saved) (said other : Said)
    → Answer words contents saves said → Answer words contents others other → AreSame (command_of words) saves others said other

-- However a file is shown, it has one fault, or none.
abbrev pub OneFault : Type 0
OneFault = (file text other : List ℕ) (fault found : Option ShowFault) → IsShown file text fault → IsShown file other found → fault ≡ found

-- What a name has are bytes.
abbrev pub HasBytes : Contents → Type 0
HasBytes contents = (name bytes : List ℕ) → contents name ≡ Some bytes → AreBytes bytes

pub record IsAnswered (words : List (List ℕ)) (contents : Contents) : Type 0 where
  pub saves : List Saved
  pub said : Said
  pub answer : Answer words contents saves said

abbrev pub SomeAnswer : Type 0
SomeAnswer = (words : List (List ℕ)) (contents : Contents) → HasBytes contents → IsAnswered words contents
