-- What the definitions of a check say together.
use Rattle.std.specs.Prelude.{◌≡◌, ◌↔◌, ℕ, List}
use Rattle.load_model.specs.Modules.{Library}
use Rattle.session_model.specs.Runs.{Run, IsRunOf, run_text}
use Rattle.check_model.specs.declared.kinds.CheckKind.{CheckKind}
use Rattle.check_model.specs.Told.{Told, told_text, counts_of}
use Rattle.check_model.specs.TextFault.{TextFault}
use Rattle.check_model.specs.Checks.{Judge, FirstWrong, NothingWrong}

-- Nothing is wrong with what is told exactly where it is a run of the scripts, with the run's own numbers.
abbrev pub NothingWrongIsRun : Type 0
NothingWrongIsRun =
    (j : Judge) (t : Told) → NothingWrong j t ↔ (IsRunOf j.lib j.failing j.contents j.scripts t.run × (t.counts ≡ counts_of t.run))

-- What is told goes wrong first at one line and in one way, and then something is wrong.
pub record FirstWrongIsOne : Type 0 where
  pub line : (j : Judge) (t : Told) (m n : ℕ) (a b : CheckKind) → FirstWrong j t m a → FirstWrong j t n b → m ≡ n
  pub kind : (j : Judge) (t : Told) (m n : ℕ) (a b : CheckKind) → FirstWrong j t m a → FirstWrong j t n b → a ≡ b
  pub some : (j : Judge) (t : Told) (m : ℕ) (a : CheckKind) → FirstWrong j t m a → NothingWrong j t → ⊥

-- Bytes stop being a text at one line first.
abbrev pub TextFaultIsOne : Type 0
TextFaultIsOne = (lib : Library) (bytes : List ℕ) (m n : ℕ) → TextFault lib bytes m → TextFault lib bytes n → m ≡ n

-- A run, told with its own numbers, is told by its transcript.
abbrev pub TextsTellRuns : Type 0
TextsTellRuns = (lib : Library) (run : Run) → told_text lib (record { run = run; counts = counts_of run }) ≡ run_text lib run
