use Rattle.std.proofs.Common.{◌≡◌}
use Rattle.std.specs.Prelude.{slice_index}
use Rattle.gen_core.specs.Fixing.{first_words, total}
use Rattle.gen_core.proofs.fixing.sum_of_page.Given as goal

abbrev pub invariant-loop-i : goal.invariant-loop-i
invariant-loop-i l = l.sum ≡ total (first_words (slice_index l.bytes) l.i)
