-- What the check of a text against a session comes to.
use Rattle.std.specs.Prelude.{◌≡◌, ℕ, List}
use Rattle.load_model.specs.Modules.{Library, fixed_bytes}
use Rattle.session_model.specs.declared.sessions.Session.{Session}
use Rattle.session_model.specs.FailingPairs.{failing_pairs}
use Rattle.check_model.specs.declared.kinds.Counts.{Counts}
use Rattle.check_model.specs.Told.{Told}
use Rattle.check_model.specs.Checks.{Judge, IsAccepted, IsRefused}
use Rattle.check_session.specs.declared.checking.Checked.{Checked}
use Rattle.check_session.specs.declared.checking.Checked.TheVariants.{Accepted, Refused}

-- By what a transcript of a session is judged over a library: the initialisations fail that the session's lines say, and objects
-- hold the bytes of the files with their fixups.
abbrev pub judge_of : Library → Session → Judge
judge_of lib s = record { lib = lib; failing = failing_pairs lib s; contents = fixed_bytes lib; scripts = s.scripts }

-- The bytes are a text of something of which nothing is wrong, and these are the numbers of its last line.
pub record IsAcceptedWith (j : Judge) (bytes : List ℕ) (counts : Counts) : Type 0 where
  pub it : Told
  pub accepted : IsAccepted j bytes it
  pub counts_are : counts ≡ it.counts

-- They are accepted with these numbers; or this is wrong first, at this line.
abbrev pub IsChecked : Judge → List ℕ → Checked → Type 0
IsChecked j bytes (Accepted counts) = IsAcceptedWith j bytes counts
IsChecked j bytes (Refused fault) = IsRefused j bytes fault.line fault.kind

-- Nothing else is so of the bytes.
abbrev pub IsOnlyCheck : Judge → List ℕ → Checked → Type 0
IsOnlyCheck j bytes checked = (other : Checked) → IsChecked j bytes other → other ≡ checked
