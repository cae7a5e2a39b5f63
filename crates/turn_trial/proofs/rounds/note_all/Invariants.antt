use Rattle.std.proofs.Common.{◌≡◌, ◌+◌}
use Rattle.turn_trial.specs.Passes.{Rests}
use Rattle.turn_trial.proofs.rounds.note_all.Given as goal

abbrev pub invariant-loop-count : goal.invariant-loop-count
invariant-loop-count g l = Rests l.lock l.pass × (l.pass.me.0.drawn ≡ l.initial.pass.me.0.drawn + l.count)
