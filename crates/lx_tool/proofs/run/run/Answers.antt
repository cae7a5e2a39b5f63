use Rattle.lx_tool.proofs.Sessions.{unread_says}
use Rattle.lx_tool.proofs.run.run.Goals as goal

pub returns-in-Ok : goal.returns-in-Ok
returns-in-Ok g c =
    let read = c.in-Ok.ensures.read in
    record {
      calls = read.calls;
      loads = read.loads;
      named = read.named;
      says = c.run_files.ensures c.args.file.now read.calls read.answer;
    }

pub returns-in_ok-in_full-in-Err : goal.returns-in_ok-in_full-in-Err
returns-in_ok-in_full-in-Err g c =
    let read = c.in-Err.ensures.read in
    let said = c.in_ok-in_full-in-Err in
    record {
      calls = read.calls;
      loads = read.loads;
      named = read.named;
      says = unread_says c.args.file.now read.calls c.in-Err.why said.field-0 read.answer said.ensures;
    }
