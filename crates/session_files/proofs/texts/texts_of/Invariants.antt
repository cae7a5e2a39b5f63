use Rattle.std.proofs.Common.{◌≡◌, ◌++◌, length, map, string_bytes}
use Rattle.std.specs.List.{All}
use Rattle.session_model.specs.Lines.{words_in}
use Rattle.session_text.specs.Writable.{IsPlain}
use Rattle.session_files.proofs.texts.texts_of.Given as goal

abbrev pub invariant-loop-cut : goal.invariant-loop-cut
invariant-loop-cut l = (map string_bytes l.texts.items ++ words_in l.left ≡ l.words) × All IsPlain (words_in l.left)

abbrev pub decreases-loop-cut : goal.decreases-loop-cut
decreases-loop-cut l = length l.left
