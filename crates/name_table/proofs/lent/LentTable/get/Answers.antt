use Rattle.std.proofs.Common.{◌∙◌, ap, refl}
use Rattle.name_table.specs.Entries.{value_named}
use Rattle.name_table.proofs.Shown.{lookup-shown}
use Rattle.name_table.proofs.lent.LentTable.get.Goals as goal

pub returns : goal.returns
returns g c =
    c.get.ensures.value
    ∙ lookup-shown (λ k. k.bytes.now) _ c.args.name.now (λ k. refl) c.self.inside.entries.entries
    ∙ ap (λ es. value_named c.args.name.now es) c.self.view_is
