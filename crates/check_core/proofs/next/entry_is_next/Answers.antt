use Rattle.check_core.proofs.NextCommands.{entry_answer}
use Rattle.check_core.proofs.next.entry_is_next.Goals as goal

pub returns : goal.returns
returns c = entry_answer c.is_next_entry.result c.args.lib.now c.args.scripts.now c.args.done.now c.args.told.now c.is_next_entry.ensures
