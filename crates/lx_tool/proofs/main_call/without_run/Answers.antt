use Rattle.std.proofs.Common.{ℕ, List, map, string_bytes}
use Rattle.std.specs.Global.{Global}
use Rattle.command_line.specs.Commands.{checked}
use Rattle.lx_tool.proofs.CheckEndings.{unrun_ends, unrun_unended}
use Rattle.lx_tool.proofs.main_call.without_run.Goals as goal

pub returns-in-Ok-clause-ends : goal.returns-in-Ok-clause-ends
returns-in-Ok-clause-ends g c =
    let words : List (List ℕ) = map (string_bytes {Z = Global}) c.args.words.now in
    unrun_ends words (checked c.in-Some.named) _ _ _ c.in-Some.ensures _ c.in-Ok.told c.put_check.result.status c.in-Ok.ensures c.put_check.ensures.puts
