-- The pair of a line, from what is found for it.
use Rattle.std.proofs.Common.{◌≡◌, ℕ, List, Some, None, Result, Ok, Err, option_map, ◌∙◌, ap}
use Rattle.std.specs.Prelude.{IfOk, filter_map, option_and_then, Vec}
use Rattle.std.specs.declared.alloc.Global.{Global}
use Rattle.lx_types.specs.declared.fail.NoMemory.{NoMemory}
use Rattle.lx_model.specs.Library.{module_named}
use Rattle.load_model.specs.Modules.{Library, number_of}
use Rattle.session_model.specs.declared.sessions.FailingLine.{FailingLine}
use Rattle.session_model.specs.declared.sessions.Script.{Script}
use Rattle.session_model.specs.declared.sessions.Session.{Session}
use Rattle.session_model.specs.FailingPairs.{failing_pairs, pair_of, process_of}

pub pair_is : (lib : Library) (scripts : List Script) (f : FailingLine) (m p : ℕ) → Some m ≡ module_named lib f.«module» → Some p ≡ process_of scripts f.pid → Some (p, m) ≡ pair_of lib scripts f
unfolding number_of
pair_is lib scripts f m p found process =
    ap (λ o. option_map (λ pid. (pid, m)) o) process ∙ ap (λ o. option_and_then (λ k. option_map (λ pid. (pid, k)) (process_of scripts f.pid)) o) found

pub no_pair : (lib : Library) (scripts : List Script) (f : FailingLine) → None ≡ module_named lib f.«module» → None ≡ pair_of lib scripts f
unfolding number_of
no_pair lib scripts f found = ap (λ o. option_and_then (λ k. option_map (λ pid. (pid, k)) (process_of scripts f.pid)) o) found

-- the pairs of a session's lines, which are those of its scripts
pub pairs_if : (r : Result (Vec (ℕ × ℕ) Global) NoMemory) (lib : Library) (s : Session) (scripts : List Script) (lines : List FailingLine) → scripts ≡ s.scripts → lines ≡ s.failing →
    IfOk r (λ found. found.items ≡ filter_map (pair_of lib scripts) lines) → IfOk r (λ found. found.items ≡ failing_pairs lib s)
unfolding failing_pairs
pairs_if (Ok found) lib s scripts lines of_scripts of_lines is = is ∙ (ap (λ xs. filter_map (pair_of lib xs) lines) of_scripts ∙ ap (filter_map (pair_of lib s.scripts)) of_lines)
pairs_if (Err why) lib s scripts lines of_scripts of_lines is = tt
