use Rattle.load_model.proofs.Causes.{first_cause_counts}
use Rattle.load_model.proofs.laws.first_causes_count.Goals as goal

pub returns : goal.returns
returns c = first_cause_counts
