use Rattle.std.proofs.Common.{◌∙◌, sym, subst}
use Rattle.link_fix.specs.declared.tables.ImportTables.{ImportTables}
use Rattle.link_fix.specs.Tables.{ArePairs}
use Rattle.link_core.proofs.Steps.{pairs-begin}
use Rattle.link_core.proofs.tables.first_tables.Goals as goal

pub returns : goal.returns
returns c = λ pairs imports procs.
    subst (λ (t : ImportTables). ArePairs t pairs) (sym c.of.ensures)
    (pairs-begin c.in_ok-modules.modules c.in_ok-procs.procs c.as_slice.result.now c.as_slice-2.result.now pairs c.in_ok-modules.ensures c.in_ok-procs.ensures (c.as_slice.ensures ∙ imports) (c.as_slice-2.ensures ∙ procs))
