use Rattle.std.proofs.Common.{◌≡◌, ◌++◌, drop, map}
use Rattle.lx_write.specs.Offsets.{fix_at}
use Rattle.lx_write.proofs.records.fixes_in_file.Given as goal

abbrev pub invariant-loop-fix : goal.invariant-loop-fix
invariant-loop-fix l = l.out.items ++ map (fix_at l.offsets) (drop l.fix-index l.fixes) ≡ map (fix_at l.offsets) l.fixes
