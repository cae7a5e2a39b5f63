use Rattle.std.proofs.Common.{refl}
use Rattle.answer_model.proofs.worked.run_words_are_known.Goals as goal

pub returns : goal.returns
returns c = record { two = refl; one = refl; three = refl; other = refl; none = refl }
