use Rattle.run_core.proofs.Words.{failing_in, IsOf, IsSameProcess, length, MAX_TURNS, Reached, ◌*◌, ◌≡◌, ◌≤◌}
use Rattle.run_core.proofs.tasks.run_script.Given as goal

abbrev pub invariant-loop-command : goal.invariant-loop-command
invariant-loop-command g l =
    (goal.iterator-loop-command g).can_next l.command-iterator ×
    (goal.iterator-loop-command g).is_finite l.command-iterator ×
    (l.index ≡ length l.yielded) ×
    (l.task.number ≡ l.fn.task.number) ×
    IsOf l.loader l.task.proc ×
    IsSameProcess l.fn.task.proc l.task.proc ×
    (l.task.proc.known.drawn ≤ MAX_TURNS * length l.yielded) ×
    Reached l.fn.task.proc.view.library (failing_in l.fn.task.proc.known.subject) l.task.proc l.task.lines l.yielded
