use Rattle.std.proofs.Common.{◌≡◌, ◌+◌, ◌*◌, ◌++◌, length, take}
use Rattle.std.specs.List.{repeat}
use Rattle.lx_iter.proofs.expansion.put_times.Given as goal

-- the bytes stand there so often already
abbrev pub invariant-loop : goal.invariant-loop
invariant-loop l = record {
  place : l.to ≡ l.at + l.counter * length l.bytes;
  front : take l.to l.into ≡ take l.at l.fn.into ++ repeat l.counter l.bytes;
}
