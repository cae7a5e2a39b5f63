use Rattle.std.proofs.Common.{◌≡◌, ◌≤◌, length, map, Some, vec_len, vec_capacity}
use Rattle.load_core.specs.Enters.{shared_of}
use Rattle.load_core.specs.declared.new_residences.Attached.{Attached}
use Rattle.load_core.proofs.new_residences.hand_out.Given as goal

abbrev pub invariant-loop-one : goal.invariant-loop-one
invariant-loop-one l =
    goal.iterator-loop-one.can_next l.one-iterator × goal.iterator-loop-one.is_finite l.one-iterator
    × (map Some l.into.items ≡ map (λ (a : Attached). shared_of l.table a.«module») l.yielded)
    × (vec_len l.into ≡ length l.yielded)
    × (length l.fn.attached.items ≤ vec_capacity l.into)
