use Rattle.answer_laws.proofs.CheckOnce.{check_has_one_answer}
use Rattle.answer_laws.proofs.laws.checks_have_one_answer.Goals as goal

pub returns : goal.returns
returns c = check_has_one_answer c.first_wrong_is_one.ensures c.text_fault_is_one.ensures c.texts_tell_one.ensures.told
