use Rattle.std.proofs.Common.{◌∙◌, ap, map, ◌++◌}
use Rattle.lx_model.specs.JoinedRecords.{records_for}
use Rattle.image_model.specs.PageTables.{page_records}
use Rattle.lx_fixrec.specs.Writable.{MayBeWritten}
use Rattle.lx_write.specs.Offsets.{fix_at}
use Rattle.lx_write.proofs.InFile.{item_written}
use Rattle.lx_write.proofs.RecordsAdded.{pages_step, pages_ended}
use Rattle.lx_write.proofs.records.Records.add_object.Goals as goal

pub add-requires-clause-fit : goal.add-requires-clause-fit
add-requires-clause-fit c = item_written MayBeWritten c.args.pages.now c.loop-page.page-index c.page-item.result c.as_slice.result.now c.requires.fit c.loop-page-test.true c.page-item.is c.as_slice.ensures

pub loop-page-preserved : goal.loop-page-preserved
loop-page-preserved c =
    pages_step c.args.self.now c.loop-page.self c.add.new.self c.args.offsets.now c.args.pages.now c.loop-page.page-index c.page-item.result c.page-item.result c.loop-page-test.true c.page-item.is
    (c.in_ok-add.ensures.0, c.in_ok-add.ensures.1 ∙ ap (λ fs. c.loop-page.self.records.items ++ page_records (records_for (map (fix_at c.args.offsets.now) fs))) c.as_slice.ensures)
    c.loop-page.invariant

pub returns : goal.returns
returns c = pages_ended c.args.self.now c.loop-page.self c.args.offsets.now c.args.pages.now c.loop-page.page-index c.loop-page-test.false c.loop-page.invariant
