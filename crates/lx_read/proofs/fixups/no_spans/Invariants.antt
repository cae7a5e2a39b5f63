use Rattle.std.proofs.Common.{None}
use Rattle.lx_read.proofs.TableLoop.{Kept}
use Rattle.lx_read.proofs.fixups.no_spans.Given as goal

-- the spans so far and those that are left are one for each page
abbrev pub invariant-loop : goal.invariant-loop
invariant-loop l = Kept (λ _. None) (λ _. (0, 0)) l.pages l.counter l.spans
