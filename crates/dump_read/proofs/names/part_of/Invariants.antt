use Rattle.std.proofs.Common.{◌≡◌, ◌-◌, ◌≤◌, ◌++◌, length}
use Rattle.std.specs.List.{AllByRecursion}
use Rattle.lx_types.specs.Escaped.{escaped}
use Rattle.dump_model.specs.Bounds.{IsByte}
use Rattle.dump_read.proofs.names.part_of.Given as goal

abbrev pub invariant-loop-byte : goal.invariant-loop-byte
invariant-loop-byte l = record {
  text : l.word ≡ escaped l.bytes.items ++ l.left;
  short : length l.bytes.items ≤ 255;
  all : AllByRecursion IsByte l.bytes.items;
}

abbrev pub decreases-loop-byte : goal.decreases-loop-byte
decreases-loop-byte l = 255 - length l.bytes.items
