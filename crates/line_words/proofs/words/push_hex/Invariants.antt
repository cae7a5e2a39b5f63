use Rattle.std.proofs.Common.{◌≡◌, ◌++◌, drop}
use Rattle.session_model.specs.Text.{bytes_word}
use Rattle.line_words.proofs.words.push_hex.Given as goal

abbrev pub invariant-loop-byte : goal.invariant-loop-byte
invariant-loop-byte l = l.out.items ++ bytes_word (drop l.byte-index l.bytes) ≡ l.initial.out.items ++ bytes_word l.bytes
