use Rattle.answer_laws.proofs.SmallestObjectsLaw.{smallest_objects}
use Rattle.answer_laws.proofs.laws.smallest_objects_are_shown.Goals as goal

pub returns : goal.returns
returns c = smallest_objects
