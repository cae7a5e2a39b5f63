use Rattle.std.proofs.Common.{◌∙◌, subst, List}
use Rattle.std.proofs.lemmas.Result.{IfOk-weaker}
use Rattle.obj_types.specs.declared.symbol.Exp.{Exp}
use Rattle.link_core.specs.Parts.{AreTables}
use Rattle.link_core.proofs.image.tables_of.Goals as goal

pub returns-clause-tables : goal.returns-clause-tables
returns-clause-tables c = IfOk-weaker c.tables_for.result _ _
    (λ tables made pairs imports procs.
    subst (λ (xs : List Exp). AreTables c.args.layout.now.places c.args.syms.now c.args.layout.now.objects xs pairs tables) c.in_ok-asked.ensures.exports (made pairs imports procs))
    c.tables_for.ensures.tables

pub returns-clause-auto : goal.returns-clause-auto
returns-clause-auto c = IfOk-weaker c.tables_for.result _ _ (λ tables made places. made ∙ c.in_ok-asked.ensures.auto places) c.tables_for.ensures.auto
