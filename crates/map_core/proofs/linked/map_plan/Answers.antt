use Rattle.std.proofs.Common.{◌∙◌, ap, subst, sym}
use Rattle.std.specs.List.{AllByRecursion}
use Rattle.lx_exports.specs.Exports.{ExportFits, export_refusal}
use Rattle.link_model.specs.declared.refusals.LinkRefusal.TheVariants.{Entry}
use Rattle.link_place.proofs.AnswersMapped.{answers-value}
use Rattle.link_core.proofs.Assembled.{entry-refused, failed-by}
use Rattle.map_core.proofs.MapOfPlan.{bound_kept, laid_kept, map_of_plan}
use Rattle.map_core.proofs.linked.map_plan.Goals as goal

pub write_tables-requires-clause-named : goal.write_tables-requires-clause-named
write_tables-requires-clause-named c = c.requires.planned.planned.writable.named

pub write_tables-requires-clause-fit : goal.write_tables-requires-clause-fit
write_tables-requires-clause-fit c =
    subst (AllByRecursion ExportFits) (sym c.as_slice.ensures) c.requires.planned.planned.writable.exports

pub map_kept-requires-clause-bound : goal.map_kept-requires-clause-bound
map_kept-requires-clause-bound c = bound_kept c.args.input.now c.args.kept.now c.args.plan.now c.requires.kept c.requires.planned

pub map_kept-requires-clause-laid : goal.map_kept-requires-clause-laid
map_kept-requires-clause-laid c = laid_kept c.args.input.now c.args.kept.now c.args.plan.now c.requires.kept c.requires.planned

pub returns-in-Err : goal.returns-in-Err
returns-in-Err c =
    failed-by c.write_tables.result c.in-Err.fail c.failed_as.result Entry _ _ _ _ c.failed_as.ensures c.in-Err.is
    (λ e h. entry-refused c.args.input.now c.args.plan.now e c.requires.planned (ap export_refusal (sym c.as_slice.ensures) ∙ h)) c.write_tables.ensures.written

pub returns-in_ok-map_kept-in-Ok : goal.returns-in_ok-map_kept-in-Ok
returns-in_ok-map_kept-in-Ok c =
    let told = answers-value c.write_tables.result c.in-Ok._tables _ _ c.in-Ok.is c.write_tables.ensures.written in
    map_of_plan c.args.input.now c.args.kept.now c.args.plan.now c.in_ok-map_kept-in-Ok.field-0.items c.requires.kept c.requires.planned (ap export_refusal (sym c.as_slice.ensures) ∙ told.accepted)
    c.in_ok-map_kept-in-Ok.ensures
