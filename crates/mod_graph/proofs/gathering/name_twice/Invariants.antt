use Rattle.std.proofs.Common.{◌≡◌, ◌-◌, length, map}
use Rattle.std.specs.List.{range_with_len}
use Rattle.lx_model.specs.Reading.{first}
use Rattle.lx_model.specs.Gathering.{twice_at}
use Rattle.mod_graph.specs.Gathering.{name_fault}
use Rattle.mod_graph.proofs.gathering.name_twice.Given as goal

-- no module so far has the name of an earlier one
abbrev pub invariant-loop-second : goal.invariant-loop-second
invariant-loop-second l = name_fault l.mods ≡ first (map (twice_at l.mods) (range_with_len l.second (length l.mods - l.second)))
