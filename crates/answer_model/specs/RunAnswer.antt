-- What `run FILE` says, by the answers to its calls. The session is loaded and read; then its module lines are done in turn,
-- each whole (its files are loaded and read, and it is linked) before the next; then the modules are gathered; then the
-- scripts run. What is said at the end of a run is its transcript.
use Rattle.std.specs.Prelude.{◌≡◌, ◌⊎◌, ℕ, List, [], ◌∷◌, ◌++◌, codes, Option, Some, None, if◌then◌else◌}
use Rattle.std.specs.List.{flat_map}
use Rattle.std.specs.Option.{option_map}
use Rattle.std.specs.Str.{bytes_eq}
use Rattle.lx_ports.specs.Calls.{Call}
use Rattle.link_model.specs.Link.{Link, IsLinkOf}
use Rattle.link_model.specs.Refusal.{link_refusal}
use Rattle.lx_model.specs.declared.library.LibraryRefusal.{LibraryRefusal}
use Rattle.lx_model.specs.Gathering.{LibraryFault}
use Rattle.session_model.specs.declared.sessions.ModLine.{ModLine}
use Rattle.session_model.specs.declared.sessions.ModLine.TheVariants.{Take, Build}
use Rattle.session_model.specs.declared.sessions.Session.{Session}
use Rattle.session_model.specs.FailingPairs.{failing_pairs}
use Rattle.session_model.specs.Runs.{Run, IsRunOf, run_text}
use Rattle.run_model.specs.Sources.{Source, held, library_of}
use Rattle.answer_model.specs.SessionRefusals.{library_text}
use Rattle.answer_model.specs.declared.said.Said.{Said}
use Rattle.answer_model.specs.FileLine.{file_line}
use Rattle.answer_model.specs.LinkAnswer.{input_with, link_text}
use Rattle.answer_model.specs.AskedFiles.{Asked}
use Rattle.answer_model.specs.RunLines.{asked_line, Gives}
use Rattle.answer_model.specs.Loading.{AreRead, IsRead, IsStopped}
use Rattle.answer_model.specs.Items.{Item, session, session_file}

-- ---- the words

-- `run FILE`
abbrev pub run_of : List (List ℕ) → Option (List ℕ)
run_of (word ∷ file ∷ []) = if bytes_eq word (codes "run") then Some file else None
run_of _ = None

-- ---- the files, in their order

abbrev pub asked_session : List ℕ → Asked
asked_session file = record { kind = session_file; name = file }

abbrev pub asked_lines : List ModLine → List Asked
asked_lines lines = flat_map asked_line lines

-- ---- one module line

-- Its files do not link, which is told under STEM.
pub record LinkFails (stem : List ℕ) (items : List Item) (said : Said) : Type 0 where
  pub link : Link
  pub of_input : IsLinkOf (input_with stem items) link
  pub text : List ℕ
  pub refused : option_map link_text (link_refusal link) ≡ Some text
  pub told : said ≡ record { status = 1; text = file_line stem text }

abbrev pub Fails : ModLine → List Item → Said → Type 0
Fails (Take file) items said = ⊥
Fails (Build stem def files) items said = LinkFails stem items said

-- With these calls, which are loads of its files, it was done.
pub record IsDoneLine (line : ModLine) (calls : List Call) (source : Source) : Type 0 where
  pub items : List Item
  pub read : AreRead (asked_line line) calls items
  pub gives : Gives line items source

-- All its files were read, and do not link.
pub record IsFailedLine (line : ModLine) (calls : List Call) (said : Said) : Type 0 where
  pub items : List Item
  pub read : AreRead (asked_line line) calls items
  pub fails : Fails line items said

-- ---- all module lines

-- They were done in turn, each with its calls.
abbrev pub AreDone : List ModLine → List (List Call) → List Source → Type 0
AreDone [] [] [] = Unit {0}
AreDone (line ∷ lines) (own ∷ others) (source ∷ sources) = IsDoneLine line own source × AreDone lines others sources
AreDone _ calls sources = ⊥

-- the calls of all lines, one after the other
abbrev pub together : List (List Call) → List Call
together calls = flat_map (λ own. own) calls

-- The lines before one were done, that one was stopped, at the first of its files that was refused or because it does not
-- link, and of none after it a file was loaded.
pub record IsStoppedLine (lines : List ModLine) (calls : List Call) (said : Said) : Type 0 where
  pub before : List ModLine
  pub here : ModLine
  pub after : List ModLine
  pub are : lines ≡ before ++ here ∷ after
  pub earlier : List (List Call)
  pub sources : List Source
  pub done : AreDone before earlier sources
  pub own : List Call
  pub stopped : IsStopped (asked_line here) own said ⊎ IsFailedLine here own said
  pub calls_are : calls ≡ together earlier ++ own

-- All lines were done.
pub record AreGiven (lines : List ModLine) (calls : List Call) (sources : List Source) : Type 0 where
  pub each : List (List Call)
  pub done : AreDone lines each sources
  pub calls_are : calls ≡ together each

-- ---- gathering, and the run

-- The modules are no library.
pub record IsUngathered (s : Session) (calls : List Call) (said : Said) : Type 0 where
  pub sources : List Source
  pub given : AreGiven s.modules calls sources
  pub why : LibraryRefusal
  pub fault : LibraryFault (library_of sources) ≡ Some why
  pub told : said ≡ record { status = 1; text = file_line (codes "session") (library_text why) }

-- They are one, and this is a run of the scripts over it, by what was taken and what was built.
pub record IsRun (s : Session) (calls : List Call) (said : Said) (run : Run) : Type 0 where
  pub sources : List Source
  pub given : AreGiven s.modules calls sources
  pub fine : LibraryFault (library_of sources) ≡ None
  pub runs : IsRunOf (library_of sources) (failing_pairs (library_of sources) s) (held sources) s.scripts run
  pub told : said ≡ record { status = 0; text = run_text (library_of sources) run }

-- ---- the whole command

-- What is said of a session that was read, with what was run.
abbrev pub SaysSession : Session → List Call → Said → Option Run → Type 0
SaysSession s calls said None = IsStoppedLine s.modules calls said ⊎ IsUngathered s calls said
SaysSession s calls said (Some run) = IsRun s calls said run

pub record IsThrough (file : List ℕ) (calls : List Call) (said : Said) (ran : Option Run) : Type 0 where
  pub session_is : Session
  pub first : Call
  pub read : IsRead (asked_session file) first (session session_is)
  pub others : List Call
  pub says : SaysSession session_is others said ran
  pub calls_are : calls ≡ first ∷ others

-- The session was not read, which is said, and nothing ran; or it was.
abbrev pub SaysRun : List ℕ → List Call → Said → Option Run → Type 0
SaysRun file calls said ran = ((ran ≡ None) × IsStopped (asked_session file ∷ []) calls said) ⊎ IsThrough file calls said ran
