use Rattle.std.proofs.Common.{◌≡◌, length}
use Rattle.show_core.proofs.modules.add_resources.Given as goal

abbrev pub invariant-loop-k : goal.invariant-loop-k
invariant-loop-k l = length l.lines.items ≡ l.k
