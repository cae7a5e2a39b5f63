-- Which initialisations fail in a run of a session.
use Rattle.std.specs.Prelude.{ℕ, ◌+◌, ◌==◌, List, filter_map, position, Option, option_map, option_and_then}
use Rattle.load_model.specs.Modules.{Library, number_of}
use Rattle.load_model.specs.State.{Failing}
use Rattle.session_model.specs.declared.sessions.FailingLine.{FailingLine}
use Rattle.session_model.specs.declared.sessions.Script.{Script}
use Rattle.session_model.specs.declared.sessions.Session.{Session}

-- the process of the script of a number: processes count from 1 in the order of the scripts
abbrev pub process_of : List Script → ℕ → Option ℕ
process_of scripts pid = option_map (λ k. k + 1) (position (λ s. s.pid == pid) scripts)

abbrev pub pair_of : Library → List Script → FailingLine → Option (ℕ × ℕ)
pair_of lib scripts f = option_and_then (λ m. option_map (λ pid. (pid, m)) (process_of scripts f.pid)) (number_of lib f.«module»)

-- Each line gives a process and a module; one whose name no module has, or whose number no script, is passed over.
unfoldable pub failing_pairs : Library → Session → Failing
failing_pairs lib s = filter_map (pair_of lib s.scripts) s.failing
