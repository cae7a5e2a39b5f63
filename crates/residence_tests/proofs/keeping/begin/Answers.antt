use Rattle.residence_tests.proofs.SoundTable.{begun_sound}
use Rattle.residence_tests.proofs.keeping.begin.Goals as goal

pub returns : goal.returns
returns c =
    begun_sound c.args.lib.now c.args.resident.now.table c.in_ok-new_residences.new_residences.items c.begin.new.self c.args.fresh.now c.args.resident.now.serials c.in_ok-serials.serials c.requires.sound
    c.requires.fresh c.in_ok-new_residences.ensures c.in_ok-begin.ensures c.in_ok-serials.ensures
