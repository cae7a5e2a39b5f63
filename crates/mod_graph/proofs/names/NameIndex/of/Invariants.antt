use Rattle.std.proofs.Common.{◌≡◌, ℕ, List, drop, map}
use Rattle.lx_types.specs.Parts.{ordinal_named}
use Rattle.mod_graph.proofs.names.NameIndex.of.Given as goal

-- what the index has of the names from this place on
abbrev pub invariant-loop-place : goal.invariant-loop-place
invariant-loop-place l = (name : List ℕ) → ordinal_named (map (λ e. (e.0.items, e.1)) l.ordinals.entries) name ≡ ordinal_named (drop l.place l.names) name
