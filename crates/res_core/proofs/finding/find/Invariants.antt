use Rattle.std.proofs.Common.{◌≡◌, ◌+◌, ◌*◌, ◌<◌, ◌&&◌, false, ℕ}
use Rattle.lx_model.specs.declared.lengths.TheConstants.{RESOURCE_ENTRY_LEN}
use Rattle.lx_model.specs.Resources.{has_key, is_whole, resource_at}
use Rattle.res_core.proofs.finding.find.Given as goal

abbrev pub invariant-loop-k : goal.invariant-loop-k
invariant-loop-k l =
    (j : ℕ) → j < l.k → (has_key l.ty l.id (resource_at l.m.file (l.table + RESOURCE_ENTRY_LEN * j)) && is_whole l.m (resource_at l.m.file (l.table + RESOURCE_ENTRY_LEN * j))) ≡ false
