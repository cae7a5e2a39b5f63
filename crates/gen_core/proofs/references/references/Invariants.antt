use Rattle.std.proofs.Common.{◌≡◌, map}
use Rattle.std.specs.List.{range_with_len}
use Rattle.gen_model.specs.Modules.{reference}
use Rattle.gen_core.proofs.references.references.Given as goal

abbrev pub invariant-loop-i : goal.invariant-loop-i
invariant-loop-i l = l.fixes ≡ map (reference l.k) (range_with_len 0 l.i)
