use Rattle.std.specs.Prelude.{map}
use Rattle.line_words.specs.Words.{word_text}
use Rattle.transcript_read.specs.Words.{left_of}
use Rattle.transcript_read.specs.Taken.{TakesSome}
use Rattle.transcript_read.proofs.cursor.Words.some.Given as goal

abbrev pub invariant-loop : goal.invariant-loop
invariant-loop l = TakesSome l.counter (map word_text l.taken.items) (left_of l.initial.self) (left_of l.self)
