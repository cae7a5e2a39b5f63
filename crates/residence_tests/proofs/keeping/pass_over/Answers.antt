use Rattle.std.proofs.Common.{sym, subst}
use Rattle.residence_table.specs.Residences.{residences}
use Rattle.residence_tests.specs.Sound.{AllSound}
use Rattle.residence_tests.proofs.SoundTable.{passed_sound}
use Rattle.residence_tests.proofs.keeping.pass_over.Goals as goal

pub returns : goal.returns
returns c =
    subst (AllSound c.args.lib.now (residences c.args.resident.now.table) 0) (sym c.in_ok-resident.ensures)
    (passed_sound c.args.lib.now (residences c.args.resident.now.table) c.args.resident.now.serials c.args.count c.requires)
