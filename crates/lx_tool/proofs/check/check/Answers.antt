use Rattle.lx_tool.proofs.Checks.{does_rest, does_unread}
use Rattle.lx_tool.proofs.check.check.Goals as goal

pub returns-in-Ok : goal.returns-in-Ok
returns-in-Ok g c =
    let read = c.in-Ok.ensures.read in
    does_rest _ _ _ _ c.in-Ok.read read c.check_files.result (c.check_files.ensures _ read.calls read.answer)

pub returns-in-Err : goal.returns-in-Err
returns-in-Err g c = does_unread _ _ _ c.in-Err.why c.in_full.result c.in-Err.ensures.read c.in_full.ensures
