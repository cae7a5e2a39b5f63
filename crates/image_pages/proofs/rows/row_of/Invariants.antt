use Rattle.std.proofs.Common.{◌≡◌}
use Rattle.image_pages.proofs.PageRows.{row_till}
use Rattle.image_pages.proofs.rows.row_of.Given as goal

abbrev pub invariant-loop-page : goal.invariant-loop-page
invariant-loop-page g l = l.row.items ≡ row_till l.pages.library l.pages.«module» l.pages.bases l.object l.size l.page
