use Rattle.residence_table.proofs.Placed.{ArePlaced}
use Rattle.residence_table.proofs.placing.place_all.Given as goal

abbrev pub invariant-loop-m : goal.invariant-loop-m
invariant-loop-m l = ArePlaced l.lib l.serials l.fn.occupied l.modules l.m-index l.serial l.occupied l.fresh.items
