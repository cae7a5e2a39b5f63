-- Who has no root holds nothing.
use Rattle.std.proofs.Common.{[]}
use Rattle.load_model.specs.State.{nothing_yet}
use Rattle.mod_refs.proofs.KeptCounts.{kept_exit}
use Rattle.mod_refs.proofs.one_process.leave.Goals as goal

pub returns-in-All-clause-kept : goal.returns-in-All-clause-kept
returns-in-All-clause-kept c =
    let kept = c.requires.kept in
    kept_exit c.args.lib.now c.args.counts.now _ (nothing_yet []) kept (c.exit.ensures c.args.lib.now kept.process (nothing_yet []) kept.is)
