use Rattle.std.proofs.Common.{◌∙◌, ap, map, ◌++◌}
use Rattle.image_model.specs.PageForms.{pages_in, form_of_page}
use Rattle.lx_write.specs.Growing.{with_pages}
use Rattle.lx_write.proofs.PagesAdded.{objects_step, objects_ended}
use Rattle.lx_write.proofs.pages.pages_of.Goals as goal

pub loop-bytes-preserved : goal.loop-bytes-preserved
loop-bytes-preserved c =
    objects_step c.loop-bytes.pages c.add_object.new.self c.args.objects.now c.loop-bytes.bytes-index c.bytes-item.result c.bytes-item.result _ c.loop-bytes-test.true c.bytes-item.is
    (λ others. c.in_ok-add_object.ensures others ∙ ap (λ bs. with_pages c.loop-bytes.pages (map form_of_page (pages_in bs) ++ others)) c.as_slice.ensures)
    c.loop-bytes.invariant

pub returns-clause-heads : goal.returns-clause-heads
returns-clause-heads c =
    (objects_ended c.loop-bytes.pages (record { heads = c.new.result; contents = c.new-2.result }) c.args.objects.now c.loop-bytes.bytes-index c.loop-bytes-test.false c.new.ensures.items c.new-2.ensures.items c.loop-bytes.invariant).0

pub returns-clause-contents : goal.returns-clause-contents
returns-clause-contents c =
    (objects_ended c.loop-bytes.pages (record { heads = c.new.result; contents = c.new-2.result }) c.args.objects.now c.loop-bytes.bytes-index c.loop-bytes-test.false c.new.ensures.items c.new-2.ensures.items c.loop-bytes.invariant).1
