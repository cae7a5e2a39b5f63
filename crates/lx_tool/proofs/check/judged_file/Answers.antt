use Rattle.lx_tool.proofs.Checks.{if_judged, if_unloaded}
use Rattle.lx_tool.proofs.check.judged_file.Goals as goal

pub returns-in-Ok : goal.returns-in-Ok
returns-in-Ok g c =
    let read = c.in-Ok.ensures.read in
    record { answer = read.0; one = read.1; says = if_judged _ _ c.in-Ok.bytes.items read.0 c.judged.result read.2 c.judged.ensures }

pub returns-in-Err : goal.returns-in-Err
returns-in-Err g c =
    let read = c.in-Err.ensures.read in
    record { answer = read.0; one = read.1; says = if_unloaded _ _ read.0 c.in-Err.why c.in_full.result read.2 c.in_full.ensures }
