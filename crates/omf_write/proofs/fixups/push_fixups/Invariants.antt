use Rattle.std.proofs.Common.{◌≡◌, ◌++◌, ◌-◌, ◌*◌, drop}
use Rattle.omf_write.specs.ObjectBytes.{fixupp_records}
use Rattle.omf_write.proofs.fixups.push_fixups.Given as goal

abbrev pub invariant-loop-place : goal.invariant-loop-place
invariant-loop-place l =
    l.out.items ++ fixupp_records (l.count - l.place) l.from (drop (l.place * 64) l.fixes) ≡ l.fn.out.items ++ fixupp_records l.count l.from l.fixes
