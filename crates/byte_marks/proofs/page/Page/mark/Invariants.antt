use Rattle.std.proofs.Common.{◌≡◌, ℕ, ◌-◌, ◌≤◌, max, ◌||◌}
use Rattle.byte_marks.specs.Bits.{is_from, is_set}
use Rattle.byte_marks.proofs.page.Page.mark.Given as goal

abbrev pub invariant-words : goal.invariant-words
invariant-words l = record {
  ahead : l.from ≤ l.at;
  within : l.at ≤ max l.from l.past;
  marked : (x : ℕ) → is_set l.self.words x ≡ (is_set l.fn.self.words x || is_from l.from l.at x);
}

abbrev pub decreases-words : goal.decreases-words
decreases-words l = l.past - l.at
