use Rattle.load_model.proofs.Growing.{nothing_is_legal, one_more_is_legal, prefix_is_legal, each_follows, one_more_is_after}
use Rattle.load_model.proofs.laws.histories_grow.Goals as goal

pub returns : goal.returns
returns c = record { nothing = nothing_is_legal; grows = one_more_is_legal; shrinks = prefix_is_legal; follows = each_follows; after = one_more_is_after }
