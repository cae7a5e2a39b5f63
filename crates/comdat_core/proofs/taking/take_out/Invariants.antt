use Rattle.std.proofs.Common.{List, ℕ}
use Rattle.link_model.specs.Clash.{Owned}
use Rattle.comdat_core.specs.Taking.{AreFirsts}
use Rattle.comdat_core.proofs.TakingOut.{Progress}
use Rattle.comdat_core.proofs.taking.take_out.Given as goal

abbrev pub invariant-loop-comdat : goal.invariant-loop-comdat
invariant-loop-comdat l =
    (all : List (ℕ × Owned)) → AreFirsts all l.initial.table → Progress all l.place l.object l.comdat-index l.table l.taken.items
