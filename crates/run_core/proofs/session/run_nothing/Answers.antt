use Rattle.run_core.proofs.Words.{arc_value}
use Rattle.run_core.proofs.Ending.{nothing_run, ran_with}
use Rattle.run_core.proofs.session.run_nothing.Goals as goal

pub returns : goal.returns
returns g c =
    ran_with c.told.result (arc_value c.args.lib.now) c.deref.result.now c.args.failing.items _ _ _ c.deref.ensures c.told.ensures.closed c.told.ensures.steady c.told.ensures.text
    (nothing_run c.scripts_are_run.ensures _ _ _ c.in_ok-loader.procs.items c.close-closed.result c.new.result.items c.in_ok-loader.ensures c.close-closed.ensures c.new.ensures.items)
