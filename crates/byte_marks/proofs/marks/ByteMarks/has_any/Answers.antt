use Rattle.std.proofs.Common.{◌*◌, ◌/◌, sym, ◌∙◌, arith, true≢false}
use Rattle.byte_marks.specs.Marks.{is_marked}
use Rattle.byte_marks.proofs.Tests.{none-more, part-none}
use Rattle.byte_marks.proofs.marks.ByteMarks.has_any.Goals as goal

pub pages-preserved : goal.pages-preserved
pages-preserved c =
    let test = is_marked c.args.self.now c.args.row in
    let first = c.pages.at / 4096 * 4096 in
    record {
      ahead = let ahead = c.pages.invariant.ahead in omega (arith, ahead, c.min-end.ensures, c.pages-test.true);
      none = none-more test c.args.start c.pages.at c.min-end.result c.pages.invariant.none
          (part-none test first c.pages.at c.min-end.result (omega arith) (λ has. true≢false (sym (c.has_any_in.ensures.1 has) ∙ c.if-has_any_in.false)));
    }
