use Rattle.std.proofs.Common.{◌∙◌, ap, refl, bytes_eq}
use Rattle.name_table.specs.Entries.{with_value}
use Rattle.name_table.proofs.Shown.{set-shown, shown}
use Rattle.name_table.proofs.table.NameTable.set.Goals as goal

pub returns : goal.returns
returns g c =
    ap (λ es. shown (λ k. k.bytes.items) es) c.in_ok-insert.ensures.entries
    ∙ set-shown (λ x y. bytes_eq x.bytes.items y.bytes.items) (λ k. k.bytes.items) (λ x y. refl) c.self.inside.entries.entries c.in_ok-key.key c.args.value
    ∙ ap (λ es. with_value es c.in_ok-key.key.bytes.items c.args.value) c.self.view_is
    ∙ ap (λ n. with_value c.args.self.now n c.args.value) c.in_ok-key.ensures
