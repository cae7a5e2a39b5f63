use Rattle.std.proofs.Common.{◌+◌, [], ◌∷◌, length, subst, sym}
use Rattle.std.specs.Prelude.{codes}
use Rattle.dump_model.specs.Bounds.{IsFix}
use Rattle.dump_read.specs.Lists.{numbered_fix}
use Rattle.dump_read.specs.Taken.{Reads, shut}
use Rattle.dump_read.specs.Settled.{IsNext}
use Rattle.dump_read.specs.Sequences.{StarSoFar, list_text, list_opens, AllIn}
use Rattle.dump_read.proofs.Elements.{fix-element}
use Rattle.dump_read.proofs.Runs.{star-steps, star-done, star-smaller}
use Rattle.dump_read.proofs.fixups.fixes.Goals as goal

pub loop-fixes-smaller : goal.loop-fixes-smaller
loop-fixes-smaller c =
    star-smaller (numbered_fix c.args.object c.args.page) IsFix shut (codes "fix ") (fix-element c.args.object c.args.page) (0 + length c.loop-fixes.fixes.items) c.fix.result c.loop-fixes.reader c.is_next.new.self c.fix.new.reader (subst (λ b. IsNext (codes "fix ") b c.loop-fixes.reader c.is_next.new.self) c.loop-fixes-test.true c.is_next.ensures)
    c.fix.ensures

pub loop-fixes-preserved : goal.loop-fixes-preserved
loop-fixes-preserved c =
    subst (λ xs. StarSoFar (numbered_fix c.args.object c.args.page) IsFix shut (codes "fix ") 0 xs c.args.reader.now c.fix.new.reader) (sym c.in_ok-push.ensures.items)
    (star-steps (numbered_fix c.args.object c.args.page) IsFix shut (codes "fix ") (fix-element c.args.object c.args.page) 0 c.loop-fixes.fixes.items c.fix.result c.args.reader.now c.loop-fixes.reader c.is_next.new.self c.fix.new.reader c.loop-fixes.invariant (subst (λ b. IsNext (codes "fix ") b c.loop-fixes.reader c.is_next.new.self) c.loop-fixes-test.true c.is_next.ensures) c.fix.ensures)

pub returns : goal.returns
returns c =
    subst (λ xs. Reads (list_text (numbered_fix c.args.object c.args.page) 0) (AllIn IsFix) (list_opens ((codes "fix ") ∷ []) shut) xs c.args.reader.now c.is_next.new.self) (sym c.from_vec.ensures)
    (star-done (numbered_fix c.args.object c.args.page) IsFix shut (codes "fix ") (fix-element c.args.object c.args.page) 0 c.loop-fixes.fixes.items c.args.reader.now c.loop-fixes.reader c.is_next.new.self c.loop-fixes.invariant (subst (λ b. IsNext (codes "fix ") b c.loop-fixes.reader c.is_next.new.self) c.loop-fixes-test.false c.is_next.ensures))
