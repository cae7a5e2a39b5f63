use Rattle.std.proofs.Common.{◌≡◌, ℕ, ◌-◌, ◌≤◌, ◌<◌}
use Rattle.byte_marks.specs.Marks.{HasPage, is_marked, page_of}
use Rattle.byte_marks.proofs.marks.ByteMarks.add_pages.Given as goal

abbrev pub invariant-pages : goal.invariant-pages
invariant-pages l = record {
  marks : (r : ℕ) (x : ℕ) → is_marked l.self r x ≡ is_marked l.fn.self r x;
  there : (x : ℕ) → l.start ≤ x → x < l.at → HasPage l.self (page_of l.row x);
}

abbrev pub decreases-pages : goal.decreases-pages
decreases-pages l = l.past - l.at
