use Rattle.std.proofs.Common.{◌≡◌, map}
use Rattle.std.specs.List.{range_with_len}
use Rattle.gen_model.specs.Modules.{zero_piece}
use Rattle.gen_core.proofs.references.pieces.Given as goal

abbrev pub invariant-loop-j : goal.invariant-loop-j
invariant-loop-j l = l.pieces ≡ map zero_piece (range_with_len 0 l.j)
