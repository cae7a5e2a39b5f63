use Rattle.std.proofs.Common.{◌≡◌, ◌++◌, map, take}
use Rattle.std.specs.Prelude.{zip}
use Rattle.load_model.specs.Entering.{range_of}
use Rattle.residence_table.proofs.placing.take_objects.Given as goal

abbrev pub invariant-loop-place : goal.invariant-loop-place
invariant-loop-place l = l.occupied ≡ l.fn.occupied ++ take l.place (map range_of (zip l.objects l.bases))
