use Rattle.std.proofs.Common.{◌-◌, ◌≤◌}
use Rattle.byte_marks.specs.Marks.{is_marked}
use Rattle.byte_marks.proofs.Tests.{NoneBetween}
use Rattle.byte_marks.proofs.marks.ByteMarks.has_any.Given as goal

abbrev pub invariant-pages : goal.invariant-pages
invariant-pages l = record { ahead : l.start ≤ l.at; none : NoneBetween (is_marked l.self l.row) l.start l.at }

abbrev pub decreases-pages : goal.decreases-pages
decreases-pages l = l.past - l.at
