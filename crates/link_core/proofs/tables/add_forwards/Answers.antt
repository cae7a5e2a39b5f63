use Rattle.std.proofs.Common.{List, subst}
use Rattle.obj_types.specs.declared.symbol.Imp.{Imp}
use Rattle.link_fix.specs.Tables.{ArePairs}
use Rattle.link_core.specs.Exports.{pair_in}
use Rattle.link_core.proofs.Steps.{picked-more}
use Rattle.link_core.proofs.tables.add_forwards.Goals as goal

pub loop-export-preserved : goal.loop-export-preserved
loop-export-preserved c = λ pairs are.
    subst (λ (ps : List Imp). ArePairs c.add_forward.new.tables ps) (picked-more (pair_in c.args.places.now c.args.syms.now) pairs c.args.exports.now c.loop-export.export-index c.export-item.result c.loop-export-test.true c.export-item.is)
    (c.in_ok-add_forward.ensures _ (c.loop-export.invariant pairs are))
