use Rattle.check_core.proofs.NextCommands.{line_answer}
use Rattle.check_core.proofs.next.line_is_next.Goals as goal

pub returns : goal.returns
returns c = line_answer c.is_next_line.result c.args.scripts.now c.args.done.now c.args.pid c.args.told.now c.is_next_line.ensures
