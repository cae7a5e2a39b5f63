-- What is said of a text that was read.
use Rattle.std.specs.Prelude.{◌≡◌, ℕ, ◌≤◌, ◌<◌, ◌^◌, List, length}
use Rattle.std.specs.List.{AllByRecursion}
use Rattle.lx_types.specs.declared.limits.TheConstants.{MAX_PROCESSES}
use Rattle.load_model.specs.Modules.{Library}
use Rattle.check_model.specs.Told.{Told, told_text, IsTold}
use Rattle.check_model.specs.Places.{last_line}
use Rattle.transcript_whole.specs.declared.whole.ReadRun.{ReadRun}

abbrev pub told_of : ReadRun → Told
told_of run = record { run = record { history = run.history; steady = run.steady }; counts = run.counts }

-- Over a library bytes are the text of what is told, and of nothing else.
pub record Tells (lib : Library) (bytes : List ℕ) (t : Told) : Type 0 where
  pub told : IsTold lib t
  pub text : bytes ≡ told_text lib t
  pub only : (other : Told) → IsTold lib other → bytes ≡ told_text lib other → other ≡ t

-- What who judges it asks: numbers of lines have 64 bits, and entries are of processes that have headings.
pub record CanBeJudged (t : Told) : Type 0 where
  pub room : last_line t.run < 2 ^ 64
  pub few : length t.run.steady ≤ MAX_PROCESSES
  pub processes : AllByRecursion (λ x. (1 ≤ x.pid) × (x.pid ≤ length t.run.steady)) t.run.history
