use Rattle.std.proofs.Common.{◌≡◌, ◌-◌, ◌<◌, All, fold, take, length}
use Rattle.lx_model.specs.Reach.{Visits}
use Rattle.mod_graph.specs.Visiting.{visit_in}
use Rattle.mod_graph.proofs.order.+visit.Given as goal

abbrev pub decreases-visit : goal.decreases-visit
decreases-visit l = l.depth

-- what the visits of the imports so far have made of the marked module
abbrev pub invariant-loop-import : goal.invariant-loop-import
invariant-loop-import l =
    let now : Visits = record { visited = l.visited.items; order = l.order.items } in
    let marked : Visits = record { visited = l.initial.visited.items; order = l.initial.order.items } in
    (now ≡ fold (visit_in (l.depth - 1) l.graph) marked (take l.import-index l.import-items))
    × All (λ k. k < length l.graph) l.order.items
