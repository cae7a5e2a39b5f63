use Rattle.load_model.proofs.Holding.{held_answers_alike, held_histories_alike}
use Rattle.load_model.proofs.laws.agreement_is_enough.Goals as goal

pub returns : goal.returns
returns c = record { answers = held_answers_alike; histories = held_histories_alike }
