use Rattle.run_core.proofs.Words.{AllByRecursion, arc_value, HaveRun, IsScript, length, subst, sym, ◌<◌, ◌∙◌, ◌≤◌}
use Rattle.run_core.proofs.Ending.{made_as, not_empty, tasks_some, tasks_ready, tasks_run, ran_as, pairs_said}
use Rattle.run_core.proofs.session.run_session.Goals as goal

pub run_tasks-tasks-requires-clause-some : goal.run_tasks-tasks-requires-clause-some
run_tasks-tasks-requires-clause-some g c = λ k it.
    tasks_some _ _ _ _ _ (made_as _ _ _ _ _ (c.len.ensures ∙ c.into_vec-scripts.result.ok.0) c.in_ok-loader.ensures) _ c.in_ok-tasks.ensures
    (subst (λ n. 0 < n) c.into_vec-scripts.result.ok.0 (not_empty _ _ c.is_empty.ensures c.if-is_empty.false))

pub run_tasks-tasks-requires-clause-ready : goal.run_tasks-tasks-requires-clause-ready
run_tasks-tasks-requires-clause-ready g c = λ κs it.
    tasks_ready _ _ _ _ _ (made_as _ _ _ _ _ (c.len.ensures ∙ c.into_vec-scripts.result.ok.0) c.in_ok-loader.ensures) c.progress_begins.ensures
    (subst (AllByRecursion IsScript) (sym c.into_vec-scripts.ensures) c.requires.scripts) (subst (λ l. length l ≤ 16) (sym c.into_vec-scripts.ensures) c.requires.few) _ c.in_ok-tasks.ensures

pub finish-requires-clause-run : goal.finish-requires-clause-run
finish-requires-clause-run g c = λ κs it. (
  c.in_ok-failing.failing.items,
  c.into_vec-scripts.result.items,
  subst (λ l. HaveRun c.in_ok-loader.loader l c.in_ok-failing.failing.items c.into_vec-scripts.result.items c.run_tasks-tasks.result.items) (sym c.deref.ensures)
      (tasks_run _ _ _ _ _ (made_as _ _ _ _ _ (c.len.ensures ∙ c.into_vec-scripts.result.ok.0) c.in_ok-loader.ensures) _ _ c.in_ok-tasks.ensures
      (subst (λ n. 0 < n) c.into_vec-scripts.result.ok.0 (not_empty _ _ c.is_empty.ensures c.if-is_empty.false)) c.run_tasks-tasks.ensures.count c.run_tasks-tasks.ensures.out),
)

pub returns : goal.returns
returns g c =
    pairs_said c.finish.result (arc_value c.args.lib) c.in_ok-failing.failing.items c.args.session c.args.session.scripts c.in_ok-failing.ensures
    (ran_as c.finish.result (arc_value c.args.lib) c.deref.result.now c.in_ok-failing.failing.items c.args.session.scripts c.into_vec-scripts.result.items c.in_ok-loader.loader c.run_tasks-tasks.result.items
    c.deref.ensures c.into_vec-scripts.ensures c.finish.ensures
    (subst (λ l. HaveRun c.in_ok-loader.loader l c.in_ok-failing.failing.items c.into_vec-scripts.result.items c.run_tasks-tasks.result.items) (sym c.deref.ensures)
    (tasks_run _ _ _ _ _ (made_as _ _ _ _ _ (c.len.ensures ∙ c.into_vec-scripts.result.ok.0) c.in_ok-loader.ensures) _ _ c.in_ok-tasks.ensures
    (subst (λ n. 0 < n) c.into_vec-scripts.result.ok.0 (not_empty _ _ c.is_empty.ensures c.if-is_empty.false)) c.run_tasks-tasks.ensures.count c.run_tasks-tasks.ensures.out)))
