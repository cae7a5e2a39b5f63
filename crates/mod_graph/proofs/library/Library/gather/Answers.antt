use Rattle.std.proofs.Common.{◌∙◌, ap, sym}
use Rattle.lx_model.specs.Gathering.{LibraryFault}
use Rattle.mod_graph.proofs.Gathered.{few_accepted}
use Rattle.mod_graph.proofs.library.Library.gather.Goals as goal

pub tables_of-requires-clause-few : goal.tables_of-requires-clause-few
tables_of-requires-clause-few c =
    few_accepted c.deref-2.result.now
    (ap LibraryFault (c.deref-2.ensures.value ∙ sym c.deref.ensures.value) ∙ sym c.refusal.ensures ∙ c.in_default.is)
