use Rattle.std.proofs.Common.{◌≡◌, take, ℕ}
use Rattle.std.specs.List.{list_any}
use Rattle.std.specs.Ordering.{nat_cmp}
use Rattle.std.specs.BTreeSet.{contains}
use Rattle.sym_table.specs.Leading.{awaits}
use Rattle.sym_table.proofs.choosing.waiting_first.Given as goal

abbrev pub invariant-loop-object : goal.invariant-loop-object
invariant-loop-object l =
    (k : ℕ) → contains nat_cmp l.waiting k ≡ list_any (λ m. list_any (awaits l.leaders l.defined k) m.exts) (take l.object-index l.objects)
