use Rattle.std.proofs.Common.{ap}
use Rattle.std.specs.Prelude.{option_map}
use Rattle.transcript_read.proofs.Steps.{front_of}
use Rattle.transcript_read.proofs.cursor.Words.word.Goals as goal

pub returns-clause-front : goal.returns-clause-front
returns-clause-front c =
    front_of c.args.self.now.stopped (option_map (λ t. t.now) c.args.self.now.left) _ _ _ (ap (option_map (λ t. t.now)) c.in-Some.is) c.first_word-first.ensures.words
