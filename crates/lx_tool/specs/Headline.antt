-- What a session that ran has printed, by what the files have.
use Rattle.std.specs.Prelude.{◌≡◌, ℕ, List, [], ◌∷◌, Option, Some, None, IfSome}
use Rattle.lx_ports.specs.Files.{Contents}
use Rattle.lx_model.specs.Gathering.{LibraryFault}
use Rattle.load_model.specs.Histories.{Legal}
use Rattle.session_model.specs.FailingPairs.{failing_pairs}
use Rattle.session_model.specs.Merging.{Merge}
use Rattle.session_model.specs.Sessions.{Ses}
use Rattle.session_model.specs.Transcript.{Transcript}
use Rattle.session_model.specs.declared.sessions.ModLine.{ModLine}
use Rattle.session_model.specs.declared.sessions.Session.{Session}
use Rattle.run_model.specs.BuiltModules.{AreOfLinks}
use Rattle.run_model.specs.Sources.{Source, held, library_of}
use Rattle.run_core.specs.declared.session.Ran.{Ran}
use Rattle.answer_model.specs.AskedFiles.{Asked}
use Rattle.answer_model.specs.Items.{Item, IsLinkItem, form_of}
use Rattle.answer_model.specs.RunLines.{asked_line, Gives}

-- ---- what the files mean

-- The name has bytes that mean this, by the form in which the command takes them.
pub record Means (contents : Contents) (asked : Asked) (item : Item) : Type 0 where
  pub bytes : List ℕ
  pub has : contents asked.name ≡ Some bytes
  pub means : IsLinkItem (form_of asked.kind bytes) bytes item

abbrev pub MeanAll : Contents → List Asked → List Item → Type 0
MeanAll contents [] [] = Unit {0}
MeanAll contents (a ∷ asked) (item ∷ items) = Means contents a item × MeanAll contents asked items
MeanAll contents _ _ = ⊥

-- What a module line takes or builds, by what its files mean: the module of its file, or what its files link to.
pub record Makes (contents : Contents) (line : ModLine) (source : Source) : Type 0 where
  pub items : List Item
  pub mean : MeanAll contents (asked_line line) items
  pub gives : Gives line items source

abbrev pub MakeAll : Contents → List ModLine → List Source → Type 0
MakeAll contents [] [] = Unit {0}
MakeAll contents (line ∷ lines) (source ∷ sources) = Makes contents line source × MakeAll contents lines sources
MakeAll contents _ _ = ⊥

-- ---- the run

-- The file has a session, whose module lines make these modules, and they are a library, in which each that is built is what its
-- link is: its entry points are the link's exports, its objects, start and imports the layout's. Over it, by the bytes that the
-- object files mean of what was built, the history of the closed loader is one of the loader with one thread; it and the
-- lines of the scripts merge the session's scripts; and the text is the transcript of just these two.
pub record RanAsOne (contents : Contents) (file : List ℕ) (ran : Ran) : Type 0 where
  pub session_bytes : List ℕ
  pub has : contents file ≡ Some session_bytes
  pub session_is : Session
  pub says : Ses session_bytes session_is
  pub sources : List Source
  pub makes : MakeAll contents session_is.modules sources
  pub library : LibraryFault (library_of sources) ≡ None
  pub links : AreOfLinks sources
  pub legal : Legal (library_of sources) (failing_pairs (library_of sources) session_is) (held sources) ran.closed
  pub merge : Merge (library_of sources) (failing_pairs (library_of sources) session_is) (held sources) ran.closed ran.steady session_is.scripts
  pub text : ran.text ≡ Transcript (library_of sources) ran.closed ran.steady

-- So it is over told files, where there is what ran.
abbrev pub Headline : Option (List ℕ) → Option Contents → Option Ran → Type 0
Headline (Some file) told ran = IfSome told (λ contents. IfSome ran (RanAsOne contents file))
Headline None told ran = Unit {0}
