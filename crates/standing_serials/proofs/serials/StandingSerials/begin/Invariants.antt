use Rattle.std.proofs.Common.{◌≡◌, ◌-◌, length, drop}
use Rattle.standing_serials.specs.Standing.{serials_with}
use Rattle.standing_serials.proofs.serials.StandingSerials.begin.Given as goal

abbrev pub invariant-loop-done : goal.invariant-loop-done
invariant-loop-done l = l.self-inside.last.items ≡ serials_with (drop (length l.fresh - l.done) l.fresh) l.initial.self-inside.last.items
