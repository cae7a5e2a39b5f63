use Rattle.session_model.specs.Text.{bytes_words}
use Rattle.check_model.specs.Told.{IsByte}
use Rattle.transcript_read.specs.Words.{left_of}
use Rattle.transcript_read.specs.Taken.{SoFar, size_of}
use Rattle.transcript_read.proofs.cursor.Words.bytes.Given as goal

abbrev pub invariant-loop-all : goal.invariant-loop-all
invariant-loop-all l = SoFar bytes_words IsByte l.all.items (left_of l.initial.self) (left_of l.self)

abbrev pub decreases-loop-all : goal.decreases-loop-all
decreases-loop-all l = size_of (left_of l.self)
