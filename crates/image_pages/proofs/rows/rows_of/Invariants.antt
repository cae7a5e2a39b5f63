use Rattle.std.proofs.Common.{◌≡◌}
use Rattle.lx_model.specs.Library.{module_of}
use Rattle.image_pages.proofs.PageRows.{rows_till}
use Rattle.image_pages.proofs.rows.rows_of.Given as goal

abbrev pub invariant-loop-index : goal.invariant-loop-index
invariant-loop-index g l = l.rows.items ≡ rows_till l.lib l.bases (module_of l.lib 0).objects l.index
