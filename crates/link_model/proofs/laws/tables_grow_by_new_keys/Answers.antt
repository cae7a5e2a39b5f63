use Rattle.link_model.proofs.Tables.{names_appear}
use Rattle.link_model.proofs.laws.tables_grow_by_new_keys.Goals as goal

pub returns : goal.returns
returns c = names_appear
