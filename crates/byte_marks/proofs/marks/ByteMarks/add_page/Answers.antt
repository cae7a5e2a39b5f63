use Rattle.std.proofs.Common.{sym}
use Rattle.byte_marks.proofs.Pages.{page-added, page-stays}
use Rattle.byte_marks.proofs.marks.ByteMarks.add_page.Goals as goal

pub returns-in_ok-insert-in-None-clause-marks : goal.returns-in_ok-insert-in-None-clause-marks
returns-in_ok-insert-in-None-clause-marks c =
    page-added c.args.self.now (record { pages = c.insert.new.self; last = c.args.self.now.last }) c.args.at c.new.result c.in_ok-insert-in-None.ensures.updates (sym c.in-None.ensures) c.new.ensures

pub returns-in_ok-insert-in-None-clause-others : goal.returns-in_ok-insert-in-None-clause-others
returns-in_ok-insert-in-None-clause-others c =
    page-stays c.args.self.now (record { pages = c.insert.new.self; last = c.args.self.now.last }) c.args.at c.new.result c.in_ok-insert-in-None.ensures.updates
