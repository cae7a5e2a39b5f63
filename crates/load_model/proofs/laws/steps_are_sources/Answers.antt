use Rattle.load_model.proofs.TouchSteps.{others_count_nothing, fault_counts, mapped_counts}
use Rattle.load_model.proofs.laws.steps_are_sources.Goals as goal

pub returns : goal.returns
returns c = record { others = others_count_nothing; fault = fault_counts; mapped = mapped_counts }
