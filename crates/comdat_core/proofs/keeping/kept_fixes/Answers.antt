use Rattle.std.proofs.Common.{◌∙◌, ap, sym, not}
use Rattle.std.specs.Ordering.{nat_cmp}
use Rattle.std.specs.BTreeSet.{contains}
use Rattle.comdat_core.proofs.Loops.{filter_kept, filter_left}
use Rattle.comdat_core.proofs.keeping.kept_fixes.Goals as goal
use Rattle.comdat_core.proofs.keeping.kept_fixes.Goals.{then-not-contains+in_ok-push, else-not-contains}

pub loop-fix-preserved : goal.loop-fix-preserved
loop-fix-preserved c =
    elim c.if-not-contains.branch [
      | then-not-contains+in_ok-push w ↦
          filter_kept (λ x. not (contains nat_cmp c.args.gone.now x.seg)) c.args.fixes.now c.loop-fix.fix-index _ c.loop-fix.kept c.if-not-contains.kept c.loop-fix-test.true (ap not (sym c.contains.ensures ∙ w.if-not-contains.true)) c.loop-fix.invariant (w.kept-is ∙ w.in_ok-push.ensures)
      | else-not-contains w ↦
          filter_left (λ x. not (contains nat_cmp c.args.gone.now x.seg)) c.args.fixes.now c.loop-fix.fix-index _ c.loop-fix.kept c.if-not-contains.kept c.loop-fix-test.true (ap not (sym c.contains.ensures ∙ w.if-not-contains.false)) c.loop-fix.invariant w.kept-is
    ]
