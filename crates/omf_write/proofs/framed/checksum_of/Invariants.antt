use Rattle.std.proofs.Common.{◌≡◌, ◌-◌, ◌%◌, sum, take}
use Rattle.omf_write.proofs.framed.checksum_of.Given as goal

abbrev pub invariant-loop-byte : goal.invariant-loop-byte
invariant-loop-byte l = l.left ≡ (256 - sum (take l.byte-index l.bytes) % 256) % 256
