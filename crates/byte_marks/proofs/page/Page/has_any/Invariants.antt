use Rattle.std.proofs.Common.{◌-◌, ◌≤◌}
use Rattle.byte_marks.specs.Bits.{is_set}
use Rattle.byte_marks.proofs.Tests.{NoneBetween}
use Rattle.byte_marks.proofs.page.Page.has_any.Given as goal

abbrev pub invariant-words : goal.invariant-words
invariant-words l = record { ahead : l.from ≤ l.at; none : NoneBetween (is_set l.self.words) l.from l.at }

abbrev pub decreases-words : goal.decreases-words
decreases-words l = l.past - l.at
