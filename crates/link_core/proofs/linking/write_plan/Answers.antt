use Rattle.link_model.specs.declared.refusals.LinkRefusal.TheVariants.{Entry}
use Rattle.link_place.proofs.AnswersMapped.{answers-value}
use Rattle.link_core.proofs.Assembled.{failed-by, entry-refused, linked-is}
use Rattle.link_core.proofs.linking.write_plan.Goals as goal

pub write_module-requires : goal.write_module-requires
write_module-requires c = c.requires.planned.planned.writable

pub returns-in-Err-clause-linked : goal.returns-in-Err-clause-linked
returns-in-Err-clause-linked c =
    failed-by c.write_module.result c.in-Err.fail c.failed_as.result Entry _ _ _ _ c.failed_as.ensures c.in-Err.is (λ e h. entry-refused c.args.input.now c.args.plan.now e c.requires.planned h) c.write_module.ensures.written

pub returns-in_ok-linked_of-in-Ok-clause-linked : goal.returns-in_ok-linked_of-in-Ok-clause-linked
returns-in_ok-linked_of-in-Ok-clause-linked c =
    let told = answers-value c.write_module.result c.in-Ok.file _ _ c.in-Ok.is c.write_module.ensures.written in
    linked-is c.args.input.now c.args.plan.now c.in-Ok.file.items c.in_ok-linked_of-in-Ok.field-0 c.link_images_are_written.ensures c.requires.planned told.0 told.1 c.in_ok-linked_of-in-Ok.ensures
