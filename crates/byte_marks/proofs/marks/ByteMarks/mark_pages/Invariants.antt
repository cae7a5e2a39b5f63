use Rattle.std.proofs.Common.{◌≡◌, ℕ, ◌-◌, ◌≤◌, ◌<◌, max, ◌||◌, ◌&&◌, ◌==◌}
use Rattle.byte_marks.specs.Bits.{is_from}
use Rattle.byte_marks.specs.Marks.{HasPage, is_marked, page_of}
use Rattle.byte_marks.proofs.marks.ByteMarks.mark_pages.Given as goal

abbrev pub invariant-pages : goal.invariant-pages
invariant-pages l = record {
  ahead : l.start ≤ l.at;
  within : l.at ≤ max l.start l.past;
  marked : (r : ℕ) (x : ℕ) → is_marked l.self r x ≡ (is_marked l.fn.self r x || (r == l.row && is_from l.start l.at x));
  there : (x : ℕ) → l.start ≤ x → x < l.past → HasPage l.self (page_of l.row x);
}

abbrev pub decreases-pages : goal.decreases-pages
decreases-pages l = l.past - l.at
