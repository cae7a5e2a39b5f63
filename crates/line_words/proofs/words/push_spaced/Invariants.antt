use Rattle.std.proofs.Common.{◌≡◌, ◌++◌, map, drop}
use Rattle.line_words.specs.Words.{spaced}
use Rattle.line_words.specs.Words.{word_text}
use Rattle.line_words.proofs.words.push_spaced.Given as goal

abbrev pub invariant-loop-word : goal.invariant-loop-word
invariant-loop-word l = l.out.items ++ spaced (map word_text (drop l.word-index l.words)) ≡ l.initial.out.items ++ spaced (map word_text l.words)
