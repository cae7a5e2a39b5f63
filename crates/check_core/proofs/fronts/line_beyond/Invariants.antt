use Rattle.std.proofs.Common.{◌≡◌, ℕ, ◌+◌, length, drop, Option}
use Rattle.check_model.specs.declared.kinds.CheckFault.{CheckFault}
use Rattle.check_model.specs.Checks.{Judge}
use Rattle.check_model.specs.Told.{Told}
use Rattle.check_model.specs.Places.{lines_beyond, numbered_lines}
use Rattle.check_core.specs.Judged.{IsJudged}
use Rattle.check_core.proofs.fronts.line_beyond.Given as goal

-- what is said of the lines that are left is said of all
abbrev pub invariant-loop-place : goal.invariant-loop-place
invariant-loop-place l =
    (j : Judge) (t : Told) (pid low : ℕ) (answer : Option CheckFault) → length t.run.history ≡ l.most →
    ((under : ℕ) → IsJudged j t (lines_beyond l.most (pid, numbered_lines (l.first + l.place) under (drop l.place l.lines))) answer) →
    IsJudged j t (lines_beyond l.most (pid, numbered_lines l.first low l.lines)) answer
