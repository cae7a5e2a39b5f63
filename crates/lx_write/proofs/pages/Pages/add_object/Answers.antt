use Rattle.std.proofs.Common.{◌∙◌, ap, length, length-drop, arith}
use Rattle.lx_write.proofs.PagesAdded.{object_step, whole_rest}
use Rattle.lx_write.proofs.pages.Pages.add_object.Goals as goal

pub loop-at-preserved : goal.loop-at-preserved
loop-at-preserved c =
    let rest = whole_rest c.args.bytes.now c.loop-at.at in
    record {
      within = let there = c.loop-at-test.true in let least = c.min-len.ensures in let left = ap length rest ∙ length-drop c.loop-at.at c.args.bytes.now in grind (arith, there, least, left);
      left = object_step c.args.self.now c.loop-at.self c.add.new.self c.args.bytes.now _ c.loop-at.at c.min-len.result c.loop-at-test.true rest c.min-len.ensures c.in_ok-add.ensures c.loop-at.invariant.left;
    }
