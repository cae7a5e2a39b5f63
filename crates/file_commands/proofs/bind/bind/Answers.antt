use Rattle.file_commands.proofs.Commands.{GivesBinding, bind_done, not_read}
use Rattle.file_commands.proofs.bind.bind.Goals as goal

pub returns-in-Ok : goal.returns-in-Ok
returns-in-Ok g c =
    let read = c.in-Ok.ensures.read in
    bind_done c.args.out.now c.args.target.now c.args.resources.now c.in-Ok.binding read.calls _ _ _ _ read.loads read.reads c.bind_items.ensures

pub returns-in-Err : goal.returns-in-Err
returns-in-Err g c = not_read GivesBinding _ c.in-Err.ensures.read.calls _ _ c.in-Err.why _ c.in-Err.ensures.read.loads c.in-Err.ensures.read.reads c.in_full.ensures
