use Rattle.mod_refs.proofs.LegalCounts.{legal_rows}
use Rattle.mod_refs.proofs.laws.legal_counts_are_kept.Goals as goal

pub returns : goal.returns
returns c = legal_rows c.order_is_reach.ensures.last c.reached_is_fit.ensures.reached c.residents_are_reached.ensures.attached c.counts_are_small.ensures
