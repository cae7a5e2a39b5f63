use Rattle.std.proofs.Common.{◌≡◌, ◌++◌, map, drop}
use Rattle.line_words.specs.Words.{word_text, leading}
use Rattle.line_words.proofs.words.push_leading.Given as goal

abbrev pub invariant-loop-word : goal.invariant-loop-word
invariant-loop-word l = l.out.items ++ leading (map word_text (drop l.word-index l.words)) ≡ l.initial.out.items ++ leading (map word_text l.words)
