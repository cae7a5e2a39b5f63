-- Over one library a text in the form of a transcript tells one thing.
use Rattle.std.specs.Prelude.{◌≡◌, ℕ, ◌<◌, List, length}
use Rattle.std.specs.List.{AllByRecursion}
use Rattle.load_model.specs.Modules.{Library, name_of}
use Rattle.session_model.specs.Runs.{Run, run_text}
use Rattle.check_model.specs.Told.{Told, told_text, IsTold, counts_of, IsByte}

-- The names of the modules are bytes, and no two are one.
pub record HasNames (lib : Library) : Type 0 where
  pub bytes : (m : ℕ) → m < length lib → AllByRecursion IsByte (name_of lib m)
  pub apart : (m n : ℕ) → m < length lib → n < length lib → name_of lib m ≡ name_of lib n → m ≡ n

abbrev pub TextsTellOne : Type 0
TextsTellOne = (lib : Library) (t u : Told) → HasNames lib → IsTold lib t → IsTold lib u → told_text lib t ≡ told_text lib u → t ≡ u

-- a run that can be told
abbrev pub IsToldRun : Library → Run → Type 0
IsToldRun lib run = IsTold lib (record { run = run; counts = counts_of run })

-- So two runs with one transcript are one.
abbrev pub TranscriptsTellOneRun : Type 0
TranscriptsTellOneRun =
    (lib : Library) (run other : Run) → HasNames lib → IsToldRun lib run → IsToldRun lib other →
    run_text lib run ≡ run_text lib other → run ≡ other
