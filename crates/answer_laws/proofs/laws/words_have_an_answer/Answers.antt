use Rattle.answer_laws.proofs.SomeAnswerLaw.{some_answer}
use Rattle.answer_laws.proofs.laws.words_have_an_answer.Goals as goal

pub returns : goal.returns
returns c = some_answer c.links_have_maps.ensures c.objects_have_files.ensures c.modules_have_totals.ensures
