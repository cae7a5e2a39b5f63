use Rattle.std.proofs.Common.{List, sym, subst}
use Rattle.load_model.specs.State.{Residence}
use Rattle.residence_table.specs.Residences.{residences}
use Rattle.residence_tests.specs.Sound.{AllSound}
use Rattle.residence_tests.proofs.SoundTable.{ended_sound}
use Rattle.residence_tests.proofs.keeping.end.Goals as goal

pub returns : goal.returns
returns c =
    subst (λ (table : List (Residence × Unit {0})). AllSound c.args.lib.now (residences table) 0 c.args.resident.now.serials) (sym c.end.ensures)
    (ended_sound c.args.lib.now c.args.resident.now.table c.args.gone.now c.args.resident.now.serials c.requires)
