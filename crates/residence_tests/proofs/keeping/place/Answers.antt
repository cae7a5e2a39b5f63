use Rattle.residence_table.specs.Residences.{residences}
use Rattle.residence_table.specs.Placing.{state_with}
use Rattle.residence_tests.specs.Sound.{FreshSound}
use Rattle.std.proofs.lemmas.Result.{IfOk-weaker}
use Rattle.residence_tests.proofs.SoundTable.{are_residences, fresh_sound, ok_answers, standing_again}
use Rattle.residence_tests.proofs.keeping.place.Goals as goal

pub place-requires-clause-stand : goal.place-requires-clause-stand
place-requires-clause-stand c = are_residences c.args.lib.now (residences c.args.resident.now.table) c.args.resident.now.serials c.requires

pub returns : goal.returns
returns c =
    IfOk-weaker c.place.result _ (FreshSound c.args.lib.now c.args.resident.now.serials)
    (λ fresh placed. fresh_sound c.args.lib.now c.args.modules.now c.args.resident.now.serials _ fresh (c.are_within.ensures c.if-not-are_within.false) placed)
    (ok_answers c.place.result _ _ (c.place.ensures.answer (state_with (residences c.args.resident.now.table)) (standing_again (residences c.args.resident.now.table) c.requires.unwritten)))
