use Rattle.std.proofs.Common.{◌≡◌, length}
use Rattle.dump_model.specs.Bounds.{IsPage}
use Rattle.dump_model.specs.Dumps.{page_lines}
use Rattle.dump_read.specs.Sequences.{CountSoFar}
use Rattle.dump_read.specs.Lists.{page_opens}
use Rattle.dump_read.proofs.pages.pages.Given as goal

abbrev pub invariant-loop-number : goal.invariant-loop-number
invariant-loop-number l =
    (l.number ≡ length l.pages.items) × CountSoFar (page_lines l.object) IsPage page_opens l.count 0 l.pages.items l.initial.reader l.reader
