use Rattle.std.specs.Prelude.{map}
use Rattle.lx_types.specs.Escaped.{hex_address}
use Rattle.check_model.specs.Told.{Has32}
use Rattle.transcript_read.specs.Words.{left_of}
use Rattle.transcript_read.specs.Taken.{SoFar, size_of}
use Rattle.transcript_read.proofs.cursor.Words.addresses.Given as goal

abbrev pub invariant-loop-all : goal.invariant-loop-all
invariant-loop-all l = SoFar (λ xs. map hex_address xs) Has32 l.all.items (left_of l.initial.self) (left_of l.self)

abbrev pub decreases-loop-all : goal.decreases-loop-all
decreases-loop-all l = size_of (left_of l.self)
