use Rattle.gen_laws.proofs.FirstTotals.{first_totals}
use Rattle.gen_laws.proofs.laws.modules_have_totals.Goals as goal

pub returns : goal.returns
returns c = first_totals c.inputs_are_whole.ensures c.inputs_link.ensures
