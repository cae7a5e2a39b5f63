use Rattle.std.proofs.Common.{◌≡◌, map, take}
use Rattle.check_core.specs.NextLaws.{command_count}
use Rattle.check_core.proofs.next.all_done.Given as goal

abbrev pub invariant-loop-place : goal.invariant-loop-place
invariant-loop-place l = take l.place l.done ≡ take l.place (map command_count l.scripts)
