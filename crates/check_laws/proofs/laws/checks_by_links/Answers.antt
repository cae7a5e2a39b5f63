use Rattle.check_laws.proofs.Carried.{checks_by_links}
use Rattle.check_laws.proofs.laws.checks_by_links.Goals as goal

pub returns : goal.returns
returns c = checks_by_links c.histories_grow.ensures.nothing c.histories_grow.ensures.grows c.built_bytes_are_held.ensures
