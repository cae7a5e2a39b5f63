use Rattle.run_core.proofs.Words.{AreAll, AreOf, HaveRun, subst, sym}
use Rattle.run_core.proofs.Ending.{are_of, are_all, fed, finished, ran_if}
use Rattle.run_core.proofs.session.finish.Goals as goal

pub close-closed-requires-clause-loader : goal.close-closed-requires-clause-loader
close-closed-requires-clause-loader g c =
    subst (AreOf c.args.loader) (sym c.in_ok-procs.ensures.procs)
    (are_of _ _ _ _ _ c.requires.run.2 (fed _ _ _ c.deref.ensures.value c.any_starved.ensures c.if-any_starved.false))

pub close-closed-requires-clause-all : goal.close-closed-requires-clause-all
close-closed-requires-clause-all g c =
    subst AreAll (sym c.in_ok-procs.ensures.procs)
    (are_all _ _ _ _ _ c.requires.run.2 (fed _ _ _ c.deref.ensures.value c.any_starved.ensures c.if-any_starved.false))

pub returns : goal.returns
returns g c =
    ran_if c.told.result c.args.lib.now c.close-closed.result c.in_ok-procs.steady.items (λ failing scripts. HaveRun c.args.loader c.args.lib.now failing scripts c.args.tasks.items)
    c.told.ensures.closed c.told.ensures.steady c.told.ensures.text
    (λ failing scripts run.
    finished _ _ _ _ _ run (fed _ _ _ c.deref.ensures.value c.any_starved.ensures c.if-any_starved.false) c.scripts_are_run.ensures c.close-closed.result c.in_ok-procs.procs.items
    c.in_ok-procs.steady.items c.in_ok-procs.ensures.procs c.in_ok-procs.ensures.steady c.close-closed.ensures)
