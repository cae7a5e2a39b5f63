use Rattle.answer_laws.proofs.RunSome.{run_has_an_answer}
use Rattle.answer_laws.proofs.laws.runs_have_an_answer.Goals as goal

pub returns : goal.returns
returns c = run_has_an_answer c.scripts_have_a_run.ensures c.sessions_are_bounded.ensures
