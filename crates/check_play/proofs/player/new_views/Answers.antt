use Rattle.std.proofs.Common.{rules, ◌≡◌, ◌+◌, ◌∷◌, ◌++◌, [], ℕ, List, sym, ap, ◌∙◌, subst}
use Rattle.std.specs.Arc.{arc_value}
use Rattle.lx_types.specs.declared.parts.Parts.{Parts}
use Rattle.process_view.specs.ProcessViews.{ProcessView, new_view}
use Rattle.check_play.specs.Playing.{AreNewViews}
use Rattle.check_play.proofs.NewViews.{one_view_more}
use Rattle.check_play.proofs.player.new_views.Goals as goal

pub loop-before-preserved : goal.loop-before-preserved
loop-before-preserved c =
    let vs : List ProcessView = c.loop-before.views.items in
    let v : ProcessView = c.make.result in
    let n : ℕ = c.loop-before.before in
    let items : c.push.new.self.items ≡ vs ++ v ∷ [] = search rules in
    let shared : arc_value c.in_ok-try_clone.field-0 ≡ arc_value c.args.lib.now = search rules in
    let is : v ≡ new_view (arc_value c.args.lib.now) (n + 1) = c.make.ensures ∙ ap (λ (l : List Parts). new_view l (n + 1)) shared in
    subst (AreNewViews (arc_value c.args.lib.now) (n + 1)) (sym items) (one_view_more (arc_value c.args.lib.now) n vs v is c.loop-before.invariant)
