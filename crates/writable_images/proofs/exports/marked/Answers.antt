use Rattle.std.proofs.Common.{subst, arith}
use Rattle.std.proofs.lemmas.List.{take_all}
use Rattle.lx_exports.specs.Marks.{AreMarksOf}
use Rattle.lx_exports.proofs.FreeOrdinals.{no_marks, one_mark}
use Rattle.writable_images.proofs.ExportMarks.{marks_tell}
use Rattle.writable_images.proofs.exports.marked.Goals as goal

pub loop-number-init : goal.loop-number-init
loop-number-init c = no_marks c.in_ok-marks.marks.items (c.in_ok-marks.ensures.items_if_clones_equal (λ y is. is))

pub loop-number-preserved : goal.loop-number-preserved
loop-number-preserved c =
    let fits = (c.type_inv.numbers c.loop-number.number-index).fits in
    let same = c.from.ensures in
    one_mark c.loop-number.marks.items c.args.numbers.now c.loop-number.number-index c.from.result c.loop-number-test.true same (omega (arith, fits, same)) c.loop-number.invariant

pub returns : goal.returns
returns c =
    marks_tell c.loop-number.marks.items c.args.numbers.now
    (subst (AreMarksOf c.loop-number.marks.items) (take_all c.loop-number.number-index c.args.numbers.now c.loop-number-test.false) c.loop-number.invariant)
    (λ i there. (c.type_inv.numbers i).fits)
