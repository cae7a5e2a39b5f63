use Rattle.std.proofs.Common.{◌+◌, map, sym, ap, subst, ◌∙◌}
use Rattle.std.proofs.lemmas.List.{map-append}
use Rattle.line_words.specs.Words.{word_text}
use Rattle.transcript_read.specs.Words.{left_of}
use Rattle.transcript_read.specs.Taken.{TakesSome}
use Rattle.transcript_read.proofs.Steps.{some_more}
use Rattle.transcript_read.proofs.cursor.Words.some.Goals as goal

pub loop-preserved : goal.loop-preserved
loop-preserved c =
    subst (λ xs. TakesSome (c.loop.counter + 1) xs (left_of c.args.self.now) (left_of c.word.new.self))
    (sym (ap (map word_text) c.in_ok-push.ensures.items ∙ map-append word_text c.loop.taken.items _))
    (some_more c.loop.counter (map word_text c.loop.taken.items) c.word.result.now _ _ _ c.loop.invariant c.word.ensures.front c.word.ensures.inside)
