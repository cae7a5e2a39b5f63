use Rattle.std.proofs.Common.{◌≡◌}
use Rattle.gen_core.specs.Fixing.{front_words, total}
use Rattle.gen_core.proofs.fixing.sum_of_object.Given as goal

abbrev pub invariant-loop-page : goal.invariant-loop-page
invariant-loop-page g l = l.sum ≡ total (front_words l.pages.library l.pages.bases l.pages.«module» l.object l.page)
