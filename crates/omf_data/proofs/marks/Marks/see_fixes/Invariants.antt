use Rattle.omf_data.specs.Marks.{HaveFixes}
use Rattle.std.proofs.Common.{length, ◌-◌, ◌≡◌}
use Rattle.omf_data.proofs.marks.Marks.see_fixes.Given as goal

abbrev pub invariant-fixes : goal.invariant-fixes
invariant-fixes l = record {
  have : HaveFixes l.self l.fixes;
  pieces : l.self.pieces ≡ l.fn.self.pieces;
  bytes : l.self.bytes ≡ l.fn.self.bytes;
  ends : l.self.ends ≡ l.fn.self.ends;
  begun : l.self.begun ≡ l.fn.self.begun;
}

abbrev pub decreases-fixes : goal.decreases-fixes
decreases-fixes l = length l.fixes - l.self.fixes
