use Rattle.std.proofs.Common.{◌≤◌, length}
use Rattle.lx_tool.proofs.Putting.{IsPutUpTo}
use Rattle.lx_tool.proofs.output.put_whole.Given as goal

abbrev pub invariant-loop-rest : goal.invariant-loop-rest
invariant-loop-rest g l = record {
  put : IsPutUpTo (g.S.Sink.state l.initial.out).contents (g.S.Sink.state l.out).contents l.text l.rest;
  faults : (g.S.Sink.state l.initial.out).faults ≤ (g.S.Sink.state l.out).faults;
}

abbrev pub decreases-loop-rest : goal.decreases-loop-rest
decreases-loop-rest g l = length l.rest
