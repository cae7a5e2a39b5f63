use Rattle.play_laws.proofs.ViewAnswers.{replies_at_places}
use Rattle.play_laws.proofs.laws.views_reply_at_places.Goals as goal

pub returns : goal.returns
returns c = replies_at_places c.views_answer_at_places.ensures
