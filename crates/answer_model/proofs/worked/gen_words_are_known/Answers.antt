use Rattle.std.proofs.Common.{refl}
use Rattle.std.specs.Fmt.{digits}
use Rattle.answer_model.specs.Words.{count_of}
use Rattle.answer_model.proofs.worked.gen_words_are_known.Goals as goal

pub returns : goal.returns
unfolding count_of digits
returns c = record { one = refl; most = refl; more = refl; nothing = refl; zero_in_front = refl; sign = refl; no_count = refl; empty_prefix = refl; two = refl; four = refl; other = refl }
