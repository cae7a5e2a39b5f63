use Rattle.image_model.proofs.LinkTables.{tables_fit}
use Rattle.image_model.proofs.laws.link_tables_fit.Goals as goal

pub returns : goal.returns
returns c = tables_fit
