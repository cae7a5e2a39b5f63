use Rattle.load_model.proofs.Bounded.{counts_are_small}
use Rattle.load_model.proofs.laws.counts_are_small.Goals as goal

pub returns : goal.returns
returns c = counts_are_small
