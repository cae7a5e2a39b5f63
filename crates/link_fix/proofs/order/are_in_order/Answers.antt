use Rattle.std.proofs.Common.{arith}
use Rattle.link_fix.proofs.OrderedFixups.{in_order-none, in_order-more, in_order-all}
use Rattle.link_fix.proofs.order.are_in_order.Goals as goal

pub fixups-init : goal.fixups-init
fixups-init c = record { within = omega arith; ordered = in_order-none _ c.args.fixups.now _ (omega arith) }

pub fixups-preserved : goal.fixups-preserved
fixups-preserved c =
    record {
      within = omega arith;
      ordered = in_order-more c.fixups.begins c.note.new.begins c.args.fixups.now c.fixups.left _ c.fixups-test.true c.fixups.invariant.within c.fixups.invariant.ordered
          (c.note.ensures.ends c.if-not-note.false) (c.note.ensures.noted c.if-not-note.false);
    }

pub returns : goal.returns
returns c = λ _. in_order-all c.fixups.begins c.args.fixups.now c.fixups.left (omega arith) c.fixups.invariant.ordered
