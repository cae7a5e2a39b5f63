use Rattle.std.proofs.Common.{◌≡◌, length}
use Rattle.def_model.specs.Tokens.{tokens_from, tokens_of}
use Rattle.def_model.specs.Draft.{reading}
use Rattle.def_model.specs.Reading.{run}
use Rattle.def_file.specs.Whole.{WholeReading}
use Rattle.def_file.proofs.reading.rest.Given as goal

-- What the tokens that are left say after those so far is what the file says.
abbrev pub invariant-loop-next : goal.invariant-loop-next
invariant-loop-next l = (run (reading l.draft l.place) (tokens_from l.lexer) ≡ run (reading l.fn.draft l.fn.start) (tokens_of l.bytes)) × WholeReading (reading l.draft l.place)

abbrev pub decreases-loop-next : goal.decreases-loop-next
decreases-loop-next l = length l.lexer.left
