use Rattle.std.proofs.Common.{◌∙◌, sym, subst, ap, ◌++◌}
use Rattle.std.specs.Prelude.{All}
use Rattle.lx_fixrec.specs.Writable.{MayBeWritten}
use Rattle.lx_write.specs.Growing.{with_records}
use Rattle.lx_write.proofs.RecordsAdded.{objects_step, objects_ended, records_with}
use Rattle.lx_write.proofs.records.records_of.Goals as goal

pub add_object-requires-clause-fit : goal.add_object-requires-clause-fit
add_object-requires-clause-fit c =
    subst (All MayBeWritten) (sym (c.as_slice.ensures ∙ c.pages-item.is)) (c.requires.fit c.loop-pages.pages-index c.pages-item.result c.loop-pages-test.true)

pub loop-pages-preserved : goal.loop-pages-preserved
loop-pages-preserved c =
    objects_step c.loop-pages.records c.add_object.new.self c.args.offsets.now c.args.objects.now c.loop-pages.pages-index c.pages-item.result c.pages-item.result _ c.loop-pages-test.true c.pages-item.is
    (λ others. c.in_ok-add_object.ensures others ∙ ap (λ ps. with_records c.loop-pages.records (records_with c.args.offsets.now ps ++ others)) c.as_slice.ensures)
    c.loop-pages.invariant

pub returns-clause-spans : goal.returns-clause-spans
returns-clause-spans c =
    (objects_ended c.loop-pages.records c.mark.new.self (record { spans = c.new.result; records = c.new-2.result }) c.args.offsets.now c.args.objects.now c.loop-pages.pages-index c.loop-pages-test.false c.new.ensures.items c.new-2.ensures.items c.in_ok-mark.ensures c.loop-pages.invariant).0

pub returns-clause-records : goal.returns-clause-records
returns-clause-records c =
    (objects_ended c.loop-pages.records c.mark.new.self (record { spans = c.new.result; records = c.new-2.result }) c.args.offsets.now c.args.objects.now c.loop-pages.pages-index c.loop-pages-test.false c.new.ensures.items c.new-2.ensures.items c.in_ok-mark.ensures c.loop-pages.invariant).1
