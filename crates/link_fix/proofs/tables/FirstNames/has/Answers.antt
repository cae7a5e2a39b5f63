use Rattle.std.proofs.Common.{◌∙◌, ap, ℕ, bytes_eq, Option}
use Rattle.std.specs.Prelude.{is_some}
use Rattle.link_fix.proofs.FirstTables.{some-position}
use Rattle.link_fix.proofs.tables.FirstNames.has.Goals as goal

pub returns : goal.returns
returns c = λ names are. c.is_some.ensures ∙ ap (λ (o : Option ℕ). is_some o) (c.place_of.ensures names are) ∙ some-position (bytes_eq c.args.name.now) names
