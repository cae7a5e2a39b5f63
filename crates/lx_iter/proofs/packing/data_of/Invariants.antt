use Rattle.std.proofs.Common.{◌≡◌, ◌≤◌, length, take}
use Rattle.lx_model.specs.Packed.{data_of}
use Rattle.lx_iter.proofs.packing.data_of.Given as goal

-- zeros alone stand after the end
abbrev pub invariant-loop-end : goal.invariant-loop-end
invariant-loop-end l = record {
  within : l.end ≤ length l.page;
  same : data_of l.page ≡ data_of (take l.end l.page);
}

abbrev pub decreases-loop-end : goal.decreases-loop-end
decreases-loop-end l = l.end
