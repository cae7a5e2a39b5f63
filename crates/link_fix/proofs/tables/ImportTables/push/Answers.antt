use Rattle.link_fix.proofs.PairTables.{pairs-push}
use Rattle.link_fix.proofs.tables.ImportTables.push.Goals as goal

pub returns : goal.returns
returns c = λ pairs are.
    pairs-push c.args.self.now c.push_proc.new.self c.push.new.self pairs c.args.pair.now c.in_ok-module.module c.in_ok-module.ensures.letters are c.in_ok-push.ensures c.in_ok-push_proc.ensures.modules c.in_ok-push_proc.ensures.procs
