use Rattle.answer_laws.proofs.RunOnce.{run_has_one_answer}
use Rattle.answer_laws.proofs.laws.runs_have_one_answer.Goals as goal

pub returns : goal.returns
returns c = run_has_one_answer
