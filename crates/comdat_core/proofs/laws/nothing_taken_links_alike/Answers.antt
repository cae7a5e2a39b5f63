use Rattle.comdat_core.proofs.NothingTaken.{bare_is_kept, kept_is_bare, links_alike}
use Rattle.comdat_core.proofs.laws.nothing_taken_links_alike.Goals as goal

pub returns-clause-kept : goal.returns-clause-kept
returns-clause-kept c = kept_is_bare

pub returns-clause-bare : goal.returns-clause-bare
returns-clause-bare c = bare_is_kept

pub returns-clause-links : goal.returns-clause-links
returns-clause-links c = links_alike
