use Rattle.load_model.proofs.Growing.{asks_decide}
use Rattle.load_model.proofs.laws.asks_decide.Goals as goal

pub returns : goal.returns
returns c = asks_decide
