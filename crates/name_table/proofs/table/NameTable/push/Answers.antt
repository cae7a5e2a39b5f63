use Rattle.std.proofs.Common.{◌≡◌, ◌∙◌, ◌++◌, ◌∷◌, [], ap, sym, cond, false}
use Rattle.std.specs.List.{list_any}
use Rattle.name_table.specs.Entries.{is_named}
use Rattle.name_table.proofs.Shown.{there, not_there, after, new-value}
use Rattle.name_table.proofs.table.NameTable.push.Goals as goal

pub returns-in-Some-clause-place : goal.returns-in-Some-clause-place
returns-in-Some-clause-place g c = (there (is_named c.args.name.now) c.args.self.now c.in-Some.place c.in-Some.ensures).1

pub returns-in-Some-clause-entries : goal.returns-in-Some-clause-entries
returns-in-Some-clause-entries g c =
    let is = (there (is_named c.args.name.now) c.args.self.now c.in-Some.place c.in-Some.ensures).0 in
    ap (λ b. cond b c.args.self.now (c.args.self.now ++ (c.args.name.now, c.args.value) ∷ [])) (sym is)

pub returns-in_ok-set-in-None-clause-place : goal.returns-in_ok-set-in-None-clause-place
returns-in_ok-set-in-None-clause-place g c =
    let none : list_any (is_named c.args.name.now) c.args.self.now ≡ false = not_there (is_named c.args.name.now) c.args.self.now c.in-None.ensures in
    c.len-place.ensures ∙ after (is_named c.args.name.now) c.args.self.now none

pub returns-in_ok-set-in-None-clause-entries : goal.returns-in_ok-set-in-None-clause-entries
returns-in_ok-set-in-None-clause-entries g c =
    let none : list_any (is_named c.args.name.now) c.args.self.now ≡ false = not_there (is_named c.args.name.now) c.args.self.now c.in-None.ensures in
    c.in_ok-set-in-None.ensures
    ∙ new-value c.args.name.now c.args.value c.args.self.now none
    ∙ ap (λ b. cond b c.args.self.now (c.args.self.now ++ (c.args.name.now, c.args.value) ∷ [])) (sym none)
