-- Who has done nothing yet holds nothing.
use Rattle.std.proofs.Common.{arith, ◌-◌, length, sym, ap, subst, length-append}
use Rattle.std.specs.Prelude.{All}
use Rattle.std.proofs.lemmas.List.Elements.{All-push}
use Rattle.load_model.specs.State.{new_process}
use Rattle.load_model.specs.ProcessCounts.{AreCountsOf}
use Rattle.mod_refs.specs.declared.load_counts.LoadCounts.{LoadCounts}
use Rattle.mod_refs.specs.AllCounts.{no_counts}
use Rattle.mod_refs.proofs.KeptCounts.{kept_new}
use Rattle.mod_refs.proofs.CountsOfAll.{pid_within}
use Rattle.mod_refs.proofs.refs.Refs.make.Goals as goal

pub returns-clause-kept : goal.returns-clause-kept
returns-clause-kept c = record {
  each = λ pid in_pids.
      let pid_is = pid_within pid in_pids in
      kept_new c.args.lib.now _ (c.loop.invariant.all_counts (pid - 1) no_counts (omega (arith, c.loop.invariant.long, pid_is.least, pid_is.most, c.loop-test.false)));
}

pub loop-preserved : goal.loop-preserved
loop-preserved c =
    let counts = c.loop.all_counts.items in
    let items = c.in_ok-push.ensures.items in
    record {
      long = omega (arith, ap length items, length-append {A = LoadCounts}, c.loop.invariant.long);
      all_counts = subst (All (AreCountsOf c.args.lib.now new_process)) (sym items)
          (All-push (AreCountsOf c.args.lib.now new_process) counts _ c.loop.invariant.all_counts (c.new.ensures c.args.lib.now (sym c.len.ensures.count)));
    }
