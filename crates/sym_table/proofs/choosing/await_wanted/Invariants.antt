use Rattle.std.proofs.Common.{◌≡◌, ◌||◌, take, ℕ}
use Rattle.std.specs.List.{list_any}
use Rattle.std.specs.Ordering.{nat_cmp}
use Rattle.std.specs.BTreeSet.{contains}
use Rattle.sym_table.specs.Leading.{awaits}
use Rattle.sym_table.proofs.choosing.await_wanted.Given as goal

abbrev pub invariant-loop-external : goal.invariant-loop-external
invariant-loop-external l =
    (k : ℕ) → contains nat_cmp l.waiting k ≡ (contains nat_cmp l.initial.waiting k || list_any (awaits l.leaders l.defined k) (take l.external-index l.externals))
