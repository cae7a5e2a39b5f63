use Rattle.std.proofs.Common.{◌≡◌, ◌+◌, ◌∙◌, arith}
use Rattle.session_model.specs.Spelling.{module_line}
use Rattle.gen_model.specs.Sessions.{build_line}
use Rattle.gen_core.proofs.Further.{lines_further}
use Rattle.gen_core.proofs.sessions.push_build_lines.Goals as goal

pub loop-before-preserved : goal.loop-before-preserved
loop-before-preserved c =
    let before = c.loop-before.before in
    let number : 1 + before ≡ before + 1 = omega arith in
    c.in_ok-push_build_line.ensures ∙ lines_further module_line (build_line c.args.prefix.now) 1 before (before + 1) number _ _ c.loop-before.invariant
