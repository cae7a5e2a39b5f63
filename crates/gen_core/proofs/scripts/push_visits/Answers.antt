use Rattle.std.proofs.Common.{◌≡◌, ◌+◌, ◌∙◌, arith}
use Rattle.gen_model.specs.Sessions.{visit}
use Rattle.gen_core.proofs.Further.{flat_map_further}
use Rattle.gen_core.proofs.scripts.push_visits.Goals as goal

pub loop-before-preserved : goal.loop-before-preserved
loop-before-preserved c =
    let before = c.loop-before.before in
    let number : 1 + before ≡ before + 1 = omega arith in
    c.in_ok-push_visit.ensures ∙ flat_map_further visit 1 before (before + 1) number _ _ c.loop-before.invariant
