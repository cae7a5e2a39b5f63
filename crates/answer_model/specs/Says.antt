-- What the tool says, by the answers to its calls: this holds of real files too, whatever they have.
use Rattle.std.specs.Prelude.{◌≡◌, ◌⊎◌, ℕ, List, [], ◌∷◌, ◌++◌, codes, map, Option, Some, None, Result, Ok, Err}
use Rattle.lx_ports.specs.Calls.{Call, save}
use Rattle.lx_ports.specs.declared.files.SaveFault.{SaveFault}
use Rattle.answer_model.specs.BindAnswer.{BindAnswer}
use Rattle.answer_model.specs.DumpAnswer.{DumpAnswer}
use Rattle.answer_model.specs.FileLine.{file_line, usage_line}
use Rattle.answer_model.specs.GenAnswer.{SaysGen}
use Rattle.answer_model.specs.ImageAnswer.{ImageAnswer}
use Rattle.answer_model.specs.ImplibAnswer.{all_imports, implib_outcome}
use Rattle.answer_model.specs.LinkAnswer.{LinkAnswer}
use Rattle.answer_model.specs.MapAnswer.{MapAnswer}
use Rattle.answer_model.specs.MemoryAnswer.{MemoryAnswer, first_name}
use Rattle.answer_model.specs.ShowAnswer.{ShowAnswer}
use Rattle.answer_model.specs.AskedFiles.{asked_definition, asked_inputs, asked_modules}
use Rattle.answer_model.specs.Loading.{AreRead, IsStopped}
use Rattle.answer_model.specs.AskedFiles.{Asked}
use Rattle.answer_model.specs.Outcome.{Outcome, Saved}
use Rattle.answer_model.specs.Items.{Item, object_file, module_or_definition, module_file, resource_file, raw_file}
use Rattle.answer_model.specs.Stem.{stem_of}
use Rattle.answer_model.specs.Words.{Command, command_of, image, link, implib, bind, gen, dump, link_map, memory, show}
use Rattle.answer_model.specs.declared.said.Said.{Said}

-- ---- the files of a command

abbrev pub asked_exporters : List (List ℕ) → List Asked
asked_exporters names = map (λ name. record { kind = module_or_definition; name = name }) names

-- The files that a command loads, in their order.
abbrev pub asked_files : Command → List Asked
asked_files (image object base) = record { kind = object_file; name = object } ∷ []
asked_files (link out definition inputs) = asked_definition definition ++ asked_inputs inputs
asked_files (implib out inputs) = asked_exporters inputs
asked_files (bind out target resources) = record { kind = module_file; name = target } ∷ record { kind = resource_file; name = resources } ∷ []
asked_files (gen count prefix) = []
asked_files (dump file) = record { kind = module_file; name = file } ∷ []
asked_files (link_map definition inputs) = asked_definition definition ++ asked_inputs inputs
asked_files (memory modules) = asked_modules modules
asked_files (show file) = record { kind = raw_file; name = file } ∷ []

-- What the command comes to, by what its files mean. That is not asked of `gen`, which reads none.
abbrev pub ComesTo : Command → List Item → Outcome → Type 0
ComesTo (image object base) items outcome = ImageAnswer base items outcome
ComesTo (link out definition inputs) items outcome = LinkAnswer out items outcome
ComesTo (implib out inputs) items outcome = outcome ≡ implib_outcome out (all_imports (stem_of out) items)
ComesTo (bind out target resources) items outcome = BindAnswer out items outcome
ComesTo (gen count prefix) items outcome = ⊥
ComesTo (dump file) items outcome = DumpAnswer items outcome
ComesTo (link_map definition inputs) items outcome = MapAnswer items outcome
ComesTo (memory modules) items outcome = MemoryAnswer (first_name modules) items outcome
ComesTo (show file) items outcome = ShowAnswer file items outcome

-- ---- saving, after all loads

abbrev pub said_after : Outcome → List ℕ → Result (Unit {0}) SaveFault → Said
said_after outcome name (Ok _) = outcome.said
said_after outcome name (Err _) = record { status = 4; text = file_line name (codes "write failed") }

-- One save, of the file that is to be saved.
pub record IsSaved (outcome : Outcome) (saved : Saved) (calls : List Call) (said : Said) : Type 0 where
  pub answer : Result (Unit {0}) SaveFault
  pub calls_are : calls ≡ save saved.name saved.bytes answer ∷ []
  pub is_said : said ≡ said_after outcome saved.name answer

-- The calls after the loads, and what is said after them.
abbrev pub Finishes : Option Saved → Outcome → List Call → Said → Type 0
Finishes None outcome calls said = (calls ≡ []) × (said ≡ outcome.said)
Finishes (Some saved) outcome calls said = IsSaved outcome saved calls said

-- ---- the whole command

-- All files were read. Nothing was saved before the outcome was known.
pub record IsDone (command : Command) (calls : List Call) (said : Said) : Type 0 where
  pub loads : List Call
  pub items : List Item
  pub read : AreRead (asked_files command) loads items
  pub outcome : Outcome
  pub comes_to : ComesTo command items outcome
  pub saves : List Call
  pub finished : Finishes outcome.saved outcome saves said
  pub calls_are : calls ≡ loads ++ saves

abbrev pub SaysCommand : Option Command → List Call → Said → Type 0
SaysCommand None calls said = (calls ≡ []) × (said ≡ record { status = 2; text = usage_line })
SaysCommand (Some (gen count prefix)) calls said = SaysGen (record { count = count; prefix = prefix }) calls said
SaysCommand (Some command) calls said = IsStopped (asked_files command) calls said ⊎ IsDone command calls said

-- The words, with these calls and their answers, have this status and text.
abbrev pub Says : List (List ℕ) → List Call → Said → Type 0
Says words calls said = SaysCommand (command_of words) calls said
