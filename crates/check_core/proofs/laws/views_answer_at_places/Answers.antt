use Rattle.check_core.proofs.PlaceStates.{views_answer_at_places}
use Rattle.check_core.proofs.laws.views_answer_at_places.Goals as goal

pub returns : goal.returns
returns c = views_answer_at_places c.views_answer.ensures.refusals c.views_answer.ensures.replies
