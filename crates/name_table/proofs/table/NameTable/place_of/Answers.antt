use Rattle.std.proofs.Common.{◌∙◌, ap, refl, position}
use Rattle.name_table.specs.Entries.{is_named}
use Rattle.name_table.proofs.Shown.{position-shown}
use Rattle.name_table.proofs.table.NameTable.place_of.Goals as goal

pub returns : goal.returns
returns g c =
    c.get_index_of.ensures.index
    ∙ position-shown (λ k. k.bytes.items) _ c.args.name.now (λ k. refl) c.self.inside.entries.entries
    ∙ ap (λ es. position (is_named c.args.name.now) es) c.self.view_is
