use Rattle.std.proofs.Common.{arith}
use Rattle.std.proofs.lemmas.Bool.Decides.{nat_tests}
use Rattle.load_model.specs.Modules.{is_library, inits_each}
use Rattle.residence_table.proofs.calls.is_initialised.Goals as goal

pub returns-then-flags-ne0 : goal.returns-then-flags-ne0
unfolding is_library inits_each
returns-then-flags-ne0 c = grind (arith, nat_tests)

pub returns-else-flags-ne0 : goal.returns-else-flags-ne0
unfolding is_library inits_each
returns-else-flags-ne0 c = grind (arith, nat_tests)

pub returns-else-is_library : goal.returns-else-is_library
unfolding is_library inits_each
returns-else-is_library c = grind (arith, nat_tests)
