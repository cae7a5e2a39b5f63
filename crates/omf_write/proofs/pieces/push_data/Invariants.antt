use Rattle.std.proofs.Common.{◌≡◌, ◌≤◌, ◌++◌, length, take, drop}
use Rattle.std.specs.List.{AllByRecursion}
use Rattle.omf_write.specs.ObjectBytes.{data_records}
use Rattle.omf_write.specs.ObjectFits.{PieceFits}
use Rattle.omf_write.proofs.pieces.push_data.Given as goal

abbrev pub invariant-loop-piece : goal.invariant-loop-piece
invariant-loop-piece l = record {
  within : l.place ≤ length l.fixes;
  is : l.out.items ++ data_records (drop l.piece-index l.pieces) (drop l.place l.fixes) ≡ l.fn.out.items ++ data_records l.pieces l.fixes;
  fits : AllByRecursion PieceFits (take l.piece-index l.pieces);
}
