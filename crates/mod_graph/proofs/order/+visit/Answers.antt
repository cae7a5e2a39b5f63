use Rattle.std.proofs.Common.{◌≡◌, ℕ, List, ◌++◌, ◌∷◌, [], take, get_or, fold, false, ◌-◌, ◌∙◌, ap, sym, arith}
use Rattle.std.proofs.lemmas.Grind.{common_steps}
use Rattle.std.proofs.lemmas.List.{take_all, get_or_default}
use Rattle.lx_model.specs.Reach.{Visits, is_among}
use Rattle.mod_graph.specs.Visiting.{visit_in}
use Rattle.mod_graph.proofs.Lists.{visit_in-at_end, visit_in-again, visit_in-first, marked, closed}
use Rattle.mod_graph.proofs.order.+visit.Goals as goal
use Rattle.mod_graph.proofs.order.+visit.Goals.{then-depth-eq0-via-then-depth-eq0, then-depth-eq0-via-else-depth-eq0+then-is_among}

pub returns-then-depth-eq0-clause-visits : goal.returns-then-depth-eq0-clause-visits
returns-then-depth-eq0-clause-visits t c =
    let before : Visits = record { visited = c.args.visited.now.items; order = c.args.order.now.items } in
    elim c.then-depth-eq0.branch [
      | then-depth-eq0-via-then-depth-eq0 w ↦ sym (ap (λ n. visit_in n c.args.graph.now before c.args.m) w.if-depth-eq0.true ∙ visit_in-at_end c.args.graph.now before c.args.m)
      | then-depth-eq0-via-else-depth-eq0+then-is_among w ↦
          sym (visit_in-again c.args.depth c.args.graph.now before c.args.m (ap (λ xs. is_among xs c.args.m) (sym w.deref.ensures.value) ∙ sym w.is_among.ensures ∙ w.if-is_among.true))
    ]

pub returns-clause-visits : goal.returns-clause-visits
returns-clause-visits t c =
    let before : Visits = record { visited = c.args.visited.now.items; order = c.args.order.now.items } in
    let fresh : is_among c.args.visited.now.items c.args.m ≡ false = ap (λ xs. is_among xs c.args.m) (sym c.deref.ensures.value) ∙ sym c.is_among.ensures ∙ c.if-is_among.false in
    let first : visit_in c.args.depth c.args.graph.now before c.args.m
    ≡ closed (fold (visit_in (c.args.depth - 1) c.args.graph.now) (marked before c.args.m) (get_or c.args.graph.now c.args.m [])) c.args.m =
    visit_in-first c.args.depth c.args.graph.now before c.args.m [] (omega (arith, c.if-depth-eq0.false)) c.requires.module fresh in
    let step : Visits → ℕ → Visits = visit_in (c.args.depth - 1) c.args.graph.now in
    let items : List ℕ = c.as_slice-import-items.result.now in
    let now : Visits = record { visited = c.loop-import.visited.items; order = c.loop-import.order.items } in
    let marked_now : List ℕ → Visits = λ xs. record { visited = xs; order = c.args.order.now.items } in
    let pushed : c.push.new.self.items ≡ c.loop-import.order.items ++ c.args.m ∷ [] = c.in_ok-push.ensures.items in
    let inserted : c.insert.new.self.items ≡ c.args.m ∷ c.args.visited.now.items = c.in_ok-insert.ensures.items in
    let all : take c.loop-import.import-index items ≡ items = take_all c.loop-import.import-index items c.loop-import-test.false in
    let imports : items ≡ get_or c.args.graph.now c.args.m [] = c.as_slice-import-items.ensures ∙ c.index-graph-m.is ∙ get_or_default c.args.graph.now c.args.m c.index-graph-m.result [] c.requires.module in
    let visits : now ≡ fold step (marked before c.args.m) (get_or c.args.graph.now c.args.m []) =
    c.loop-import.invariant.0 ∙ ap (λ xs. fold step (marked_now xs) (take c.loop-import.import-index items)) inserted
    ∙ ap (λ xs. fold step (marked before c.args.m) xs) (all ∙ imports) in
    let last : Visits = record { visited = c.loop-import.visited.items; order = c.push.new.self.items } in
    let closing : last ≡ closed now c.args.m = ap (λ o. record { visited = c.loop-import.visited.items; order = o }) pushed in
    closing ∙ ap (λ v. closed v c.args.m) visits ∙ sym first

pub loop-import-preserved : goal.loop-import-preserved
loop-import-preserved t c = (grind (arith, common_steps), c.in_ok-visit.ensures.within)
