use Rattle.process_view.proofs.Words.{ap, option_copied}
use Rattle.process_view.proofs.view.View.keep_own.Goals as goal

pub put_own-requires-clause-place : goal.put_own-requires-clause-place
put_own-requires-clause-place c = c.requires.place c.in-Some.write.now (ap option_copied c.in-Some.is)
