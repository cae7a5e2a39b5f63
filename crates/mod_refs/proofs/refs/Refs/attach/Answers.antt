-- The counts that change are those of the process.
use Rattle.std.proofs.Common.{sym, subst}
use Rattle.std.proofs.lemmas.Result.{IfOk-weaker}
use Rattle.load_model.specs.Entering.{joined}
use Rattle.mod_refs.specs.AllCounts.{AreCountsOfAll, AreKept}
use Rattle.mod_refs.specs.Changes.{entered}
use Rattle.mod_refs.proofs.CountsOfAll.{counts_in, rows_changed, kept_changed}
use Rattle.mod_refs.proofs.refs.Refs.attach.Goals as goal

pub returns-clause-entered : goal.returns-clause-entered
unfolding joined
returns-clause-entered c = IfOk-weaker c.enter.result _ _
    (λ done says e are.
    let lib = c.args.lib.now in
    let all_counts = c.self.inside.all_counts.items in
    let here = subst (AreCountsOfAll lib e) (sym c.self.view_is) are in
    rows_changed lib e (entered lib c.args.how c.args.m (e.processes c.args.pid)) all_counts c.args.pid c.enter.new.counts c.self.invariant c.requires.pid here
    (says (e.processes c.args.pid) (counts_in lib e all_counts c.args.pid c.index_mut.result.now c.self.invariant c.requires.pid c.index_mut.ensures.value here)))
    c.enter.ensures.entered

pub returns-clause-kept : goal.returns-clause-kept
returns-clause-kept c =
    kept_changed c.args.lib.now c.self.inside.all_counts.items c.args.pid c.enter.new.counts c.self.invariant c.requires.pid
    (subst (AreKept c.args.lib.now) (sym c.self.view_is) c.requires.kept) c.enter.ensures.kept
