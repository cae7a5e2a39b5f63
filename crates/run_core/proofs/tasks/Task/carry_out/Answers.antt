use Rattle.run_core.proofs.Carried.{turns_if, reached_if}
use Rattle.run_core.proofs.tasks.Task.carry_out.Goals as goal

pub returns-clause-turns : goal.returns-clause-turns
returns-clause-turns g c = turns_if _ _ _ _ _ c.requires.command c.in_ok-reply.ensures.carried

pub returns-clause-reached : goal.returns-clause-reached
returns-clause-reached g c =
    reached_if c.steady_lines_go_on.ensures.refused c.steady_lines_go_on.ensures.read c.entries_go_on.ensures c.touches_go_on.ensures _ _ _ _ _ _ _ _ c.front-shown.ensures.holds
    c.front-front.ensures.holds c.front-front.ensures.front c.in_ok-reply.ensures.carried c.add_line.ensures
