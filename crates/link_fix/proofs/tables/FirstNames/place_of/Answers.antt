use Rattle.std.proofs.Common.{◌∙◌, ap, List, ℕ}
use Rattle.std.specs.List.{position}
use Rattle.name_table.specs.Entries.{is_named}
use Rattle.link_fix.proofs.FirstTables.{Named, position-named}
use Rattle.link_fix.proofs.tables.FirstNames.place_of.Goals as goal

pub returns : goal.returns
returns c = λ names are.
    c.place_of.ensures
    ∙ ap (λ (name : List ℕ). position (is_named name) c.args.self.now.places) c.bytes.ensures.same
    ∙ ap (λ (t : List Named). position (is_named c.args.name.now) t) are.1
    ∙ position-named c.args.name.now names
