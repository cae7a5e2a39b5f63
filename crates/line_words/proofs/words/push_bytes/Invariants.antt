use Rattle.std.proofs.Common.{◌≡◌, ◌++◌, drop}
use Rattle.session_model.specs.Text.{bytes_words}
use Rattle.line_words.specs.Words.{spaced}
use Rattle.line_words.proofs.words.push_bytes.Given as goal

abbrev pub invariant-loop-byte : goal.invariant-loop-byte
invariant-loop-byte l = l.out.items ++ spaced (bytes_words (drop l.byte-index l.bytes)) ≡ l.initial.out.items ++ spaced (bytes_words l.bytes)
