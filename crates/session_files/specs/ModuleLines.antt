-- What the code answers for the module lines of a session.
use Rattle.std.specs.Prelude.{◌≡◌, ◌⊎◌, ℕ, ◌<◌, ◌^◌, List, Some, None, Result, Ok, Err, Vec, length}
use Rattle.std.specs.declared.alloc.Global.{Global}
use Rattle.std.specs.List.{AllByRecursion}
use Rattle.std.specs.Option.{option_map}
use Rattle.lx_types.specs.declared.fail.Fail.{Fail}
use Rattle.lx_types.specs.declared.fail.Fail.TheVariants as fail
use Rattle.lx_types.specs.declared.parts.Parts.{Parts}
use Rattle.obj_types.specs.declared.input.LinkInput.{LinkInput}
use Rattle.link_model.specs.Link.{Link, IsLinkOf}
use Rattle.link_model.specs.Refusal.{link_refusal}
use Rattle.lx_model.specs.Module.{parts_of}
use Rattle.lx_ports.specs.Calls.{Call}
use Rattle.lx_ports.specs.Files.{FilesState}
use Rattle.image_model.specs.File.{file_of}
use Rattle.image_model.specs.Linked.{image_of}
use Rattle.run_laws.specs.Bridge.{IsBuiltWell, IsSound}
use Rattle.run_model.specs.Sources.{Source, library_of, module_from}
use Rattle.session_model.specs.declared.sessions.ModLine.{ModLine}
use Rattle.session_model.specs.declared.sessions.Session.{Session}
use Rattle.session_text.specs.Writable.{IsWritable}
use Rattle.answer_model.specs.declared.said.Said.{Said}
use Rattle.refusal_text.specs.declared.refused.Refused.{Refused}
use Rattle.refusal_text.specs.Refusals.{said_of}
use Rattle.answer_model.specs.FileLine.{file_line}
use Rattle.answer_model.specs.LinkAnswer.{link_text}
use Rattle.answer_model.specs.Loading.{AreBegun, IsStopped}
use Rattle.answer_model.specs.RunAnswer.{AreGiven, IsDoneLine, IsFailedLine, IsStoppedLine, asked_lines}
use Rattle.answer_model.specs.RunLines.{asked_line}
use Rattle.tool_read.specs.Steps.{AreLoads}

-- ---- the session

-- Its names are words, its parts have bounds, and its module lines can be counted.
pub record IsKnown (s : Session) : Type 0 where
  pub writable : IsWritable s
  pub few : length s.modules < 2 ^ 32

-- ---- the link of a module that is built

-- The input links, and this is the module of the linked file.
pub record IsLinkedModule (input : LinkInput) (parts : Parts) : Type 0 where
  pub link : Link
  pub of_input : IsLinkOf input link
  pub accepted : link_refusal link ≡ None
  pub well : IsBuiltWell link
  pub module_is : parts ≡ parts_of (file_of (image_of link))

-- It does not link, which is told under the module's name.
pub record IsUnlinked (stem : List ℕ) (input : LinkInput) (said : Said) : Type 0 where
  pub link : Link
  pub of_input : IsLinkOf input link
  pub text : List ℕ
  pub refused : option_map link_text (link_refusal link) ≡ Some text
  pub told : said ≡ record { status = 1; text = file_line stem text }

abbrev pub LinksInput : List ℕ → LinkInput → Result Parts (Fail Refused) → Type 0
LinksInput stem input (Ok parts) = IsLinkedModule input parts
LinksInput stem input (Err (fail.Said refused)) = IsUnlinked stem input (said_of refused)
LinksInput stem input (Err fail.NoMemory) = Unit {0}

-- ---- one line

-- It was done with these calls, and gave this module.
pub record IsDoneWith (line : ModLine) (calls : List Call) (parts : Parts) : Type 0 where
  pub source : Source
  pub done : IsDoneLine line calls source
  pub module_is : parts ≡ module_from source
  pub sound : IsSound source

abbrev pub AnswersLine : ModLine → List Call → Result Parts (Fail Refused) → Type 0
AnswersLine line calls (Ok parts) = IsDoneWith line calls parts
AnswersLine line calls (Err (fail.Said refused)) = IsStopped (asked_line line) calls (said_of refused) ⊎ IsFailedLine line calls (said_of refused)
AnswersLine line calls (Err fail.NoMemory) = Unit {0}

-- Between two moments the files of the line were loaded, up to the first that was refused.
pub record DoesLine (line : ModLine) (before now : FilesState) (result : Result Parts (Fail Refused)) : Type 0 where
  pub calls : List Call
  pub loads : AreLoads calls before now
  pub begun : AreBegun (asked_line line) calls
  pub answer : AnswersLine line calls result

-- ---- all lines

-- They were done with these calls, and gave these modules.
pub record AreDoneWith (lines : List ModLine) (calls : List Call) (modules : List Parts) : Type 0 where
  pub sources : List Source
  pub given : AreGiven lines calls sources
  pub modules_are : modules ≡ library_of sources
  pub sound : AllByRecursion IsSound sources

abbrev pub AnswersLines : List ModLine → List Call → Result (List Parts) (Fail Refused) → Type 0
AnswersLines lines calls (Ok modules) = AreDoneWith lines calls modules
AnswersLines lines calls (Err (fail.Said refused)) = IsStoppedLine lines calls (said_of refused)
AnswersLines lines calls (Err fail.NoMemory) = Unit {0}

-- Between two moments they were done in turn, up to the first that was stopped.
pub record DoesLines (lines : List ModLine) (before now : FilesState) (result : Result (List Parts) (Fail Refused)) : Type 0 where
  pub calls : List Call
  pub loads : AreLoads calls before now
  pub begun : AreBegun (asked_lines lines) calls
  pub answer : AnswersLines lines calls result

-- what a list of modules holds
abbrev pub listed : Result (Vec Parts Global) (Fail Refused) → Result (List Parts) (Fail Refused)
listed (Ok modules) = Ok modules.items
listed (Err why) = Err why
