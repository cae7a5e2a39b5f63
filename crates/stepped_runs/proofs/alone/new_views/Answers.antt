use Rattle.std.proofs.Common.{rules, ◌≡◌, ◌+◌, ◌∷◌, ◌++◌, [], ℕ, List, length, sym, ap, ◌∙◌, subst, arith}
use Rattle.std.specs.Arc.{arc_value}
use Rattle.std.proofs.lemmas.List.{length_push}
use Rattle.lx_types.specs.declared.parts.Parts.{Parts}
use Rattle.process_view.specs.ProcessViews.{ProcessView, new_view}
use Rattle.stepped_runs.specs.OneThread.{AreViews}
use Rattle.stepped_runs.proofs.ViewsStand.{one_view_more}
use Rattle.stepped_runs.proofs.alone.new_views.Goals as goal

pub loop-before-preserved : goal.loop-before-preserved
loop-before-preserved c =
    let vs : List ProcessView = c.loop-before.views.items in
    let v : ProcessView = c.make.result in
    let n : ℕ = c.loop-before.before in
    let items : c.push.new.self.items ≡ vs ++ v ∷ [] = search rules in
    let count : length vs ≡ n = c.loop-before.invariant.1 in
    let shared : arc_value c.in_ok-try_clone.field-0 ≡ arc_value c.args.lib.now = search rules in
    let is : v ≡ new_view c.args.board.now.library (n + 1) = c.make.ensures ∙ ap (λ (l : List Parts). new_view l (n + 1)) (shared ∙ sym c.requires.library) in
    let few = c.requires.few in
    let more : AreViews c.args.board.now (vs ++ v ∷ []) =
    one_view_more c.histories_grow.ensures.nothing c.views_stand.ensures.new c.args.board.now vs (n + 1) v c.requires.nothing (ap (λ (k : ℕ). k + 1) count) (omega arith) is c.loop-before.invariant.0 in
    let T : List ProcessView → Type 0 = λ xs. AreViews c.args.board.now xs × (length xs ≡ n + 1) in
    subst T (sym items) (more, length_push vs v ∙ ap (λ (k : ℕ). k + 1) count)
