use Rattle.std.proofs.Common.{◌≡◌, ◌+◌, sym, refl, subst}
use Rattle.lx_exports.proofs.GivenOrdinals.{Given, given_more, past_from}
use Rattle.lx_exports.proofs.ordinals.give_ordinals.Goals as goal

pub returns-in_default : goal.returns-in_default
returns-in_default c =
    let l = c.loop-export in
    let x = c.export-item.result in
    past_from c.args.exports.now l.export-index l.from c.take_ordinal.new.from x l.ordinals c.args.marks.now x.ordinal c.loop-export-test.true c.export-item.is c.requires l.invariant refl c.in_default.ensures

pub loop-export-preserved : goal.loop-export-preserved
loop-export-preserved c =
    let l = c.loop-export in
    let x = c.export-item.result in
    subst (Given c.args.exports.now (l.export-index + 1) c.take_ordinal.new.from) (sym c.in_ok-push.ensures)
    (given_more c.args.exports.now l.export-index l.from c.take_ordinal.new.from c.in-Some.ordinal x l.ordinals c.args.marks.now x.ordinal c.loop-export-test.true c.export-item.is c.requires l.invariant refl c.in-Some.ensures)
