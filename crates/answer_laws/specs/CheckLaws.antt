-- What the definitions of `check FILE TRANSCRIPT` say together, over told contents.
use Rattle.std.specs.Prelude.{◌≡◌, ℕ, List, None}
use Rattle.std.specs.List.{AllByRecursion}
use Rattle.lx_ports.specs.Calls.{Call}
use Rattle.lx_ports.specs.Files.{Contents}
use Rattle.lx_model.specs.Gathering.{LibraryFault}
use Rattle.session_model.specs.declared.sessions.ModLine.{ModLine}
use Rattle.run_model.specs.Sources.{Source, library_of}
use Rattle.transcript_laws.specs.TellsOne.{HasNames}
use Rattle.answer_model.specs.Answer.{IsSound}
use Rattle.answer_model.specs.CheckAnswer.{CheckWords, SaysCheck}
use Rattle.answer_model.specs.RunAnswer.{AreGiven}
use Rattle.answer_model.specs.declared.said.Said.{Said}

-- The modules that module lines give by these files have names of bytes, and no two of a library have one.
abbrev pub GivesNames : Contents → Type 0
GivesNames contents =
    (lines : List ModLine) (calls : List Call) (sources : List Source) → AllByRecursion (IsSound contents) calls → AreGiven lines calls sources →
    LibraryFault (library_of sources) ≡ None → HasNames (library_of sources)

-- The files had one list of loads, and one thing is said, with one status.
pub record ChecksAlike (cs ds : List Call) (said other : Said) : Type 0 where
  pub calls : cs ≡ ds
  pub same : said ≡ other

-- Two answers to `check FILE TRANSCRIPT`, each by loads that tell what the contents are.
abbrev pub CheckHasOneAnswer : Type 0
CheckHasOneAnswer =
    (words : CheckWords) (contents : Contents) (calls others : List Call) (said other : Said) → GivesNames contents →
    AllByRecursion (IsSound contents) calls → AllByRecursion (IsSound contents) others →
    SaysCheck words calls said → SaysCheck words others other → ChecksAlike calls others said other
