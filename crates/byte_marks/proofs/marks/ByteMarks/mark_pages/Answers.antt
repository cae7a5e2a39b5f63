use Rattle.std.proofs.Common.{◌≡◌, ℕ, ◌-◌, ◌*◌, ◌/◌, ◌%◌, Bool, ◌||◌, ap, ◌∙◌, arith}
use Rattle.std.specs.Prelude.{◌&&◌, ◌==◌}
use Rattle.byte_marks.specs.Bits.{is_from}
use Rattle.byte_marks.specs.Marks.{is_marked, page_of}
use Rattle.byte_marks.proofs.Tests.{or_assoc, run-of_pages, row-run}
use Rattle.byte_marks.proofs.marks.ByteMarks.mark_pages.Goals as goal

pub pages-preserved : goal.pages-preserved
pages-preserved c =
    let at = c.pages.at in
    let end = c.min-end.result in
    let k = at / 4096 in
    record {
      ahead = omega (arith, c.min-end.ensures);
      within = omega (arith, c.min-end.ensures);
      marked = λ r x.
          let run = run-of_pages c.args.start at end x c.pages.invariant.ahead (omega (arith, c.min-end.ensures)) (omega (arith, c.min-end.ensures)) in
          c.mark_page.ensures.marks r x
          ∙ ap (λ (b : Bool). b || ((r == c.args.row && x / 4096 == k) && is_from (at - k * 4096) (end - k * 4096) (x % 4096))) (c.pages.invariant.marked r x)
          ∙ row-run (is_marked c.args.self.now r x) (r == c.args.row) _ _ _ _ run;
      there = λ x least below. c.mark_page.ensures.pages (page_of c.args.row x) (c.pages.invariant.there x least below);
    }
