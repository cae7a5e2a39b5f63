use Rattle.std.proofs.Common.{arith}
use Rattle.lx_tool.proofs.Putting.{put_more_slice}
use Rattle.lx_tool.proofs.output.put_whole.Goals as goal

pub loop-rest-preserved : goal.loop-rest-preserved
loop-rest-preserved g c = record {
  put = put_more_slice _ _ _ _ _ _ c.loop-rest.invariant.put c.in_ok-count.ensures.at_most c.in_ok-count.ensures.appended;
  faults = omega (arith, c.loop-rest.invariant.faults, c.in_ok-count.ensures.faults_stand);
}
