use Rattle.check_core.specs.FaultedHistories.{has_key}
use Rattle.check_core.proofs.FaultKeys.{fault_kept, no_fault_kept, no_fault}
use Rattle.check_core.proofs.faulted.FaultedPages.follow.Goals as goal

pub returns-in_ok-insert-clause-more : goal.returns-in_ok-insert-clause-more
returns-in_ok-insert-clause-more c h are =
    fault_kept c.args.self.now.keys c.insert.new.self h c.args.entry.now c.in-Fault.serial c.in-Fault.«module» c.in-Fault.page c.in-Fault.is (λ q. c.in_ok-insert.ensures.updates.0 q) are

pub returns-in_default : goal.returns-in_default
returns-in_default c = record {
  more = λ h are.
      no_fault_kept (has_key c.args.self.now.keys) h c.args.entry.now (no_fault c.args.entry.now.deed (λ s m p e. c.in_default.not-Fault s m p e)) are;
  err = tt;
}
