use Rattle.std.proofs.Common.{◌≡◌, map, take}
use Rattle.load_model.specs.Entering.{residence_from}
use Rattle.residence_table.specs.Residences.{residences}
use Rattle.residence_tests.proofs.keeping.rows_of.Given as goal

abbrev pub invariant-loop-new_residence : goal.invariant-loop-new_residence
invariant-loop-new_residence l = residences l.table.items ≡ map residence_from (take l.new_residence-index l.fresh)
