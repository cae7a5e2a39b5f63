use Rattle.std.proofs.Common.{◌≡◌, ◌++◌, length}
use Rattle.session_model.specs.Lines.{words_in}
use Rattle.line_words.specs.Words.{spaced}
use Rattle.session_text.proofs.sessions.push_names.Given as goal

abbrev pub invariant-loop-cut : goal.invariant-loop-cut
invariant-loop-cut l = l.out.items ++ spaced (words_in l.left) ≡ l.initial.out.items ++ spaced l.names

abbrev pub decreases-loop-cut : goal.decreases-loop-cut
decreases-loop-cut l = length l.left
