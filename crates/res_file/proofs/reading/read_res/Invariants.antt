use Rattle.std.proofs.Common.{◌-◌, length}
use Rattle.res_file.specs.Seen.{AreRead, AreKeysOf}
use Rattle.res_file.proofs.reading.read_res.Given as goal

abbrev pub invariant-items : goal.invariant-items
invariant-items l = record { read : AreRead l.bytes l.at l.items.items; seen : AreKeysOf l.items.items l.seen }

abbrev pub decreases-items : goal.decreases-items
decreases-items l = length l.bytes - l.at
