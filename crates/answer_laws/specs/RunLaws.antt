-- What the definitions of `run FILE` say together, over told contents.
use Rattle.std.specs.Prelude.{◌≡◌, ◌⊎◌, ℕ, List, Option, None}
use Rattle.std.specs.List.{AllByRecursion}
use Rattle.lx_ports.specs.Calls.{Call}
use Rattle.lx_ports.specs.Files.{Contents}
use Rattle.session_model.specs.Runs.{Run}
use Rattle.answer_model.specs.Answer.{IsSound}
use Rattle.answer_model.specs.RunAnswer.{SaysRun}
use Rattle.answer_model.specs.declared.said.Said.{Said}
use Rattle.answer_laws.specs.AnswerLaws.{HasBytes}

-- The files had one list of loads, the status is one, and so is the line, where it is 1 or where nothing ran.
pub record RunsAlike (cs ds : List Call) (said other : Said) (ran : Option Run) : Type 0 where
  pub calls : cs ≡ ds
  pub status : said.status ≡ other.status
  pub line : said.status ≡ 1 → said ≡ other
  pub refused : ran ≡ None → said ≡ other

-- Two answers to `run FILE`, each by loads that tell what the contents are.
abbrev pub RunHasOneAnswer : Type 0
RunHasOneAnswer =
    (file : List ℕ) (contents : Contents) (calls others : List Call) (said other : Said) (ran run : Option Run) →
    AllByRecursion (IsSound contents) calls → AllByRecursion (IsSound contents) others →
    SaysRun file calls said ran → SaysRun file others other run → RunsAlike calls others said other ran

-- An answer to `run FILE` by loads that tell what the contents are: the file or one that it names is refused, or its modules
-- are no library, and the status is 1; or a run of its scripts is told, and it is 0.
pub record RunIsAnswered (file : List ℕ) (contents : Contents) : Type 0 where
  pub calls : List Call
  pub sound : AllByRecursion (IsSound contents) calls
  pub said : Said
  pub ran : Option Run
  pub says : SaysRun file calls said ran
  pub status : (said.status ≡ 0) ⊎ (said.status ≡ 1)

-- There is one, whatever bytes files have.
abbrev pub RunHasAnAnswer : Type 0
RunHasAnAnswer = (file : List ℕ) (contents : Contents) → HasBytes contents → RunIsAnswered file contents
