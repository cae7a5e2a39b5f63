use Rattle.std.proofs.Common.{take}
use Rattle.lx_exports.specs.Marks.{AreMarksOf}
use Rattle.writable_images.proofs.exports.marked.Given as goal

abbrev pub invariant-loop-number : goal.invariant-loop-number
invariant-loop-number l = AreMarksOf l.marks.items (take l.number-index l.numbers)
