use Rattle.std.proofs.Common.{◌≡◌, take, drop}
use Rattle.lx_exports.specs.Marks.{AreMarksOf, wrong_among}
use Rattle.lx_exports.proofs.ordinals.marks_of.Given as goal

abbrev pub invariant-loop-ordinal : goal.invariant-loop-ordinal
invariant-loop-ordinal l =
    AreMarksOf l.marks.items (take l.ordinal-index l.numbers)
    × (wrong_among l.numbers l.ordinal-index (drop l.ordinal-index l.numbers) ≡ wrong_among l.numbers 0 l.numbers)
