use Rattle.std.proofs.Common.{refl}
use Rattle.failing_inits.proofs.Pairs.{pairs_if}
use Rattle.failing_inits.proofs.failing.failing_pairs.Goals as goal

pub returns : goal.returns
returns c = pairs_if _ c.args.lib.now c.args.session.now _ _ c.as_slice.ensures refl c.pairs_in.ensures
