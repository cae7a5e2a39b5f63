use Rattle.session_read.proofs.Joining.{lines_to}
use Rattle.session_read.proofs.threads.script_after.Goals as goal

pub returns-then-starts_with-clause-whole : goal.returns-then-starts_with-clause-whole
returns-then-starts_with-clause-whole c = lines_to c.args.bytes.now c.loop-end.at c.in-Some.end c.in-Some.ensures.0.high c.in-Some.ensures.1
