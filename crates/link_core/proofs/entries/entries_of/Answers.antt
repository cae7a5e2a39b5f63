use Rattle.std.proofs.Common.{◌∙◌, ap, map, List}
use Rattle.std.proofs.lemmas.Result.{IfOk-weaker}
use Rattle.link_model.specs.declared.symbols.LaidObject.{LaidObject}
use Rattle.link_core.specs.Exports.{entries_in}
use Rattle.link_core.proofs.Steps.{offsets-are}
use Rattle.link_core.proofs.entries.entries_of.Goals as goal

pub returns : goal.returns
returns c = IfOk-weaker c.entries_by.result _ _
    (λ entries made pairs are.
    made pairs are (c.as_slice.ensures ∙ offsets-are c.args.tables.now c.procs.result.now c.in_ok-offsets.offsets pairs are c.procs.ensures c.in_ok-offsets.ensures)
    ∙ ap (λ (os : List LaidObject). entries_in c.args.layout.now.places c.args.syms.now pairs os (map (λ x. x.now) c.args.exports.now)) c.objects.ensures)
    c.entries_by.ensures
