use Rattle.answer_laws.proofs.OneAnswerLaw.{one_answer}
use Rattle.answer_laws.proofs.laws.words_have_one_answer.Goals as goal

pub returns : goal.returns
returns c = one_answer c.maps_are_one.ensures
