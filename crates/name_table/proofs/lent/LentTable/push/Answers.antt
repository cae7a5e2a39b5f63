use Rattle.std.proofs.Common.{◌≡◌, ◌∙◌, ◌++◌, ◌∷◌, [], ap, sym, cond, false, true, is_some}
use Rattle.std.specs.List.{list_any}
use Rattle.name_table.specs.Entries.{is_named, with_value}
use Rattle.name_table.proofs.Shown.{any-value, kept-value, new-value}
use Rattle.name_table.proofs.lent.LentTable.push.Goals as goal

pub returns-in-None-clause-entries : goal.returns-in-None-clause-entries
returns-in-None-clause-entries g c =
    let none : list_any (is_named c.args.name.now) c.args.self.now ≡ false = any-value c.args.name.now c.args.self.now ∙ ap is_some (sym c.in_ok-set.ensures.had ∙ c.in-None.is) in
    c.in_ok-set.ensures.entries
    ∙ new-value c.args.name.now c.args.value c.args.self.now none
    ∙ ap (λ b. cond b c.args.self.now (c.args.self.now ++ (c.args.name.now, c.args.value) ∷ [])) (sym none)

pub returns-in_ok-set-in-Some-clause-entries : goal.returns-in_ok-set-in-Some-clause-entries
returns-in_ok-set-in-Some-clause-entries g c =
    let had = sym c.in_ok-set.ensures.had ∙ c.in-Some.is in
    let some : list_any (is_named c.args.name.now) c.args.self.now ≡ true = any-value c.args.name.now c.args.self.now ∙ ap is_some had in
    c.in_ok-set-in-Some.ensures.entries
    ∙ ap (λ es. with_value es c.args.name.now c.in-Some.first) c.in_ok-set.ensures.entries
    ∙ kept-value c.args.name.now c.args.value c.in-Some.first c.args.self.now had
    ∙ ap (λ b. cond b c.args.self.now (c.args.self.now ++ (c.args.name.now, c.args.value) ∷ [])) (sym some)
