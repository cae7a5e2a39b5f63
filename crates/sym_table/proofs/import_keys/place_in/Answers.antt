use Rattle.std.proofs.Common.{◌∙◌, refl}
use Rattle.link_model.specs.Symbols.{import_key, same_import}
use Rattle.sym_table.proofs.ImportTables.{position_viewed}
use Rattle.sym_table.proofs.import_keys.place_in.Goals as goal

pub returns : goal.returns
returns c =
    c.get_index_of.ensures.index
    ∙ position_viewed (λ k. k.pair.now) _ (λ known. same_import (import_key c.args.pair.now) (import_key known)) (λ k. refl) c.args.table.now.entries
