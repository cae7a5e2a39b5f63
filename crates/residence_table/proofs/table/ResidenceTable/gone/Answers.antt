use Rattle.std.proofs.Common.{[], map, ap, ◌∙◌}
use Rattle.std.proofs.lemmas.List.{take_all}
use Rattle.load_model.specs.Leaving.{gone_of}
use Rattle.residence_table.specs.Residences.{residences}
use Rattle.residence_table.specs.Placing.{residences_with, state_with}
use Rattle.residence_table.proofs.EntryCalls.{gone_is}
use Rattle.residence_table.proofs.table.ResidenceTable.gone.Goals as goal

pub returns : goal.returns
returns g c = λ lib e pid p same is.
    c.from_vec.ensures ∙ c.loop-m.invariant ∙ ap (map (gone_of (state_with (residences_with c.args.self.now [])))) (take_all c.loop-m.m-index c.args.modules.now c.loop-m-test.false)
    ∙ gone_is lib e pid p (residences c.args.self.now) c.args.modules.now same is
