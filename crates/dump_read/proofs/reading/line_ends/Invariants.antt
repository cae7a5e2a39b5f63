use Rattle.std.proofs.Common.{◌≡◌, ◌+◌, ◌≤◌, drop}
use Rattle.dump_read.specs.Ends.{ends}
use Rattle.dump_read.proofs.reading.line_ends.Given as goal

abbrev pub invariant-loop-byte : goal.invariant-loop-byte
invariant-loop-byte l = (l.count + ends (drop l.byte-index l.bytes) ≡ ends l.bytes) × (l.count ≤ l.byte-index)
