use Rattle.run_trial.proofs.running.session_of.Goals as goal

-- src/running.rt:27:1
pub returns-in-Ok : goal.returns-in-Ok
returns-in-Ok c = c.sessions_are_bounded.ensures c.args.text.now c.in-Ok.session c.in-Ok.ensures
