use Rattle.std.proofs.Common.{arith}
use Rattle.link_fix.proofs.MarkedBytes.{after-step}
use Rattle.link_fix.proofs.marks.live_after.Goals as goal

pub fixups-preserved : goal.fixups-preserved
fixups-preserved c =
    let step = after-step c.fixups.marks c.mark.new.marks c.args.fixups.now c.fixups.fixups c.keep-first.new.fixups c.fixups.left c.fixups.first c.keep-first.result _ (omega arith) c.requires c.fixups.invariant.marked c.fixups.invariant.after
    c.keep-first.ensures.first c.keep-first.ensures.fixups c.in_ok-mark.ensures in
    record { marked = step.0; after = step.1 }
