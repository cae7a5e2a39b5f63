use Rattle.std.proofs.Common.{◌∙◌, ap, refl, bytes_eq}
use Rattle.name_table.specs.Entries.{value_named, with_value}
use Rattle.name_table.proofs.Shown.{lookup-shown, set-shown, shown}
use Rattle.name_table.proofs.lent.LentTable.set.Goals as goal

pub returns-clause-had : goal.returns-clause-had
returns-clause-had g c =
    c.in_ok-insert.ensures.old
    ∙ lookup-shown (λ k. k.bytes.now) _ c.args.name.now (λ k. refl) c.self.inside.entries.entries
    ∙ ap (λ es. value_named c.args.name.now es) c.self.view_is

pub returns-clause-entries : goal.returns-clause-entries
returns-clause-entries g c =
    ap (λ es. shown (λ k. k.bytes.now) es) c.in_ok-insert.ensures.entries
    ∙ set-shown (λ x y. bytes_eq x.bytes.now y.bytes.now) (λ k. k.bytes.now) (λ x y. refl) c.self.inside.entries.entries _ c.args.value
    ∙ ap (λ es. with_value es c.args.name.now c.args.value) c.self.view_is
