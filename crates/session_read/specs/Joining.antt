-- Sessions one after the other: one, and scripts after it.
use Rattle.std.specs.Prelude.{◌≡◌, ℕ, true, List, [], ◌∷◌, ◌++◌, fold, Option, Some, None}
use Rattle.session_model.specs.declared.sessions.Script.{Script}
use Rattle.session_model.specs.declared.sessions.Session.{Session}
use Rattle.session_model.specs.Kept.{AreLines}
use Rattle.session_model.specs.Sessions.{rises, Ses}

-- the number of the last script
abbrev pub last_pid : List Script → Option ℕ
last_pid scripts = fold (λ so_far script. Some script.pid) None scripts

-- there is no script, or the number of the first one rises above that of the script in front
abbrev pub GoesOn : Option ℕ → List Script → Type 0
GoesOn last [] = Unit {0}
GoesOn last (script ∷ scripts) = rises last script.pid ≡ true

-- The second session has scripts alone, whose numbers rise above those of the first.
pub record ComesAfter (s t : Session) : Type 0 where
  pub modules : t.modules ≡ []
  pub failing : t.failing ≡ []
  pub numbers : GoesOn (last_pid s.scripts) t.scripts

-- a session, and scripts after its own
abbrev pub with_scripts : Session → List Script → Session
with_scripts s scripts = record s { scripts = s.scripts ++ scripts }

-- Whole lines that are a session, and bytes that are one that comes after it, are together the first with the scripts of the second.
abbrev pub SessionsJoin : Type 0
SessionsJoin = (a b : List ℕ) (s t : Session) → AreLines a → Ses a s → Ses b t → ComesAfter s t → Ses (a ++ b) (with_scripts s t.scripts)
