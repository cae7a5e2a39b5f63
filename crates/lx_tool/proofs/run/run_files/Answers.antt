use Rattle.std.proofs.Common.{◌∙◌, subst, sym}
use Rattle.std.specs.Arc.{arc_value}
use Rattle.lx_model.specs.Gathering.{IsLibrary}
use Rattle.lx_tool.proofs.Sessions.{ran_over, ungathered_says}
use Rattle.lx_tool.proofs.run.run_files.Goals as goal

pub returns-in_ok-ran-in-Ok : goal.returns-in_ok-ran-in-Ok
returns-in_ok-ran-in-Ok g c = λ file calls is.
    let library = c.in_ok-library-in-Ok.library in
    let same = c.in_ok-library-in-Ok.ensures.ok in
    ran_over file calls c.args.read is c.runs_by_links.ensures c.built_modules_are_of_their_links.ensures.all
    (arc_value library) (same ∙ c.in-Ok.ensures.gathered) (subst IsLibrary (sym same) c.in-Ok.ensures.accepted) c.in_ok-ran-in-Ok.ran c.in_ok-ran-in-Ok.ensures

pub returns-in_ok-ungathered-in-Err : goal.returns-in_ok-ungathered-in-Err
returns-in_ok-ungathered-in-Err g c = λ file calls is.
    ungathered_says file calls c.args.read is c.in-Err.refused.why c.in_ok-ungathered-in-Err.field-0 c.in-Err.ensures.refused c.in_ok-ungathered-in-Err.ensures
