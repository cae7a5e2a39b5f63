-- A visit over the imports of all modules, which are listed module by module.
use Rattle.std.specs.Prelude.{ℕ, zero, suc, List, [], ◌∷◌, ◌++◌, fold, slice_index_or, if◌then◌else◌, length, All, ◌<◌}
use Rattle.lx_model.specs.Reach.{Visits, is_among}

-- each module that is imported is one of so many
abbrev pub AreWithin : ℕ → List (List ℕ) → Type 0
AreWithin count graph = All (All (λ m. m < count)) graph

-- the visit of a library's order, with the imports of each module at hand
unfoldable pub visit_in : ℕ → List (List ℕ) → Visits → ℕ → Visits
visit_in zero graph before m = before
visit_in (suc n) graph before m =
    if is_among before.visited m then before
    else
    let marked : Visits = record { visited = m ∷ before.visited; order = before.order } in
    let after = fold (visit_in n graph) marked (slice_index_or graph m []) in
    record { visited = after.visited; order = after.order ++ m ∷ [] }

-- what a module reaches, each after what it imports
abbrev pub order_in : List (List ℕ) → ℕ → List ℕ
order_in graph m = (visit_in (suc (length graph)) graph (record { visited = []; order = [] }) m).order
