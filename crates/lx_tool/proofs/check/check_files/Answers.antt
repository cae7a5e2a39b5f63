use Rattle.std.proofs.Common.{◌∙◌, subst, sym}
use Rattle.std.specs.Arc.{arc_value}
use Rattle.lx_model.specs.Gathering.{IsLibrary}
use Rattle.lx_tool.proofs.Checks.{judged_rest, no_room_rest, ungathered_rest}
use Rattle.lx_tool.proofs.check.check_files.Goals as goal

pub returns-in-Ok : goal.returns-in-Ok
returns-in-Ok g c = λ file calls is.
    let library = c.in_ok-library-in-Ok.library in
    let same = c.in_ok-library-in-Ok.ensures.ok in
    judged_rest file _ calls c.args.read is c.checks_by_links.ensures (arc_value library) (same ∙ c.in-Ok.ensures.gathered) (subst IsLibrary (sym same) c.in-Ok.ensures.accepted) _ _ c.judged_file.result
    c.judged_file.ensures

pub returns-in_err-library-in-Ok : goal.returns-in_err-library-in-Ok
returns-in_err-library-in-Ok g c = λ file calls is.
    no_room_rest file _ calls c.args.read is _ c.from_residual.result _ c.from_residual.ensures.1

pub returns : goal.returns
returns g c = λ file calls is. ungathered_rest file _ calls c.args.read is _ c.in-Err.refused.why c.ungathered.result c.in-Err.ensures.refused c.ungathered.ensures
