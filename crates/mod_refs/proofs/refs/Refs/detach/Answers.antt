-- The counts that change are those of the process.
use Rattle.std.proofs.Common.{sym, subst}
use Rattle.load_model.specs.Leaving.{keeping}
use Rattle.mod_refs.specs.AllCounts.{AreCountsOfAll, AreKept}
use Rattle.mod_refs.specs.Changes.{given_up}
use Rattle.mod_refs.proofs.CountsOfAll.{counts_in, rows_changed, kept_changed}
use Rattle.mod_refs.proofs.refs.Refs.detach.Goals as goal

pub returns-clause-left : goal.returns-clause-left
returns-clause-left c = λ e are.
    let lib = c.args.lib.now in
    let all_counts = c.self.inside.all_counts.items in
    let here = subst (AreCountsOfAll lib e) (sym c.self.view_is) are in
    rows_changed lib e (keeping lib e (given_up c.args.what (e.processes c.args.pid))) all_counts c.args.pid c.leave.new.counts c.self.invariant c.requires.pid here
    (c.leave.ensures.left (e.processes c.args.pid) e (counts_in lib e all_counts c.args.pid c.index_mut.result.now c.self.invariant c.requires.pid c.index_mut.ensures.value here))

pub returns-clause-kept : goal.returns-clause-kept
returns-clause-kept c =
    kept_changed c.args.lib.now c.self.inside.all_counts.items c.args.pid c.leave.new.counts c.self.invariant c.requires.pid
    (subst (AreKept c.args.lib.now) (sym c.self.view_is) c.requires.kept) c.leave.ensures.kept
