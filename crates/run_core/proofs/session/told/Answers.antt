use Rattle.std.proofs.Common.{◌∙◌, sym}
use Rattle.run_core.proofs.Ending.{printed}
use Rattle.run_core.proofs.session.told.Goals as goal

pub returns-clause-text : goal.returns-clause-text
returns-clause-text g c = printed _ _ _ _ _ _ c.in_ok-text.ensures c.history.ensures (c.deref.ensures.value ∙ sym c.from_vec.ensures)
