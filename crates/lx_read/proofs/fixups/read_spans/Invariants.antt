use Rattle.lx_read.proofs.Spans.{SpansKept}
use Rattle.lx_read.proofs.fixups.read_spans.Given as goal

-- the spans so far and those that are left are all
abbrev pub invariant-loop-k : goal.invariant-loop-k
invariant-loop-k l = SpansKept l.file l.k l.from l.spans
