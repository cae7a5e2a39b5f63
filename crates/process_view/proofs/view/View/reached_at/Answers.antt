use Rattle.std.proofs.Common.{◌<◌, ◌∙◌, sym, ap, subst, length, arith}
use Rattle.process_view.proofs.Words.{All-get_or, get_or-map, IsPlaced, length-map, ProcessView, ReachedResidence, residence_in}
use Rattle.process_view.proofs.view.View.reached_at.Goals as goal

pub returns : goal.returns
returns c =
    let residences = c.self.inside.residences.items in
    let s = c.index.result.now in
    let P : ReachedResidence → Type 0 = IsPlaced c.self.inside.lib c.self.inside.pages.items in
    let within : c.args.k < length residences = omega (arith, c.requires, ap (λ (v : ProcessView). length v.residences) c.self.view_is, length-map residences residence_in) in
    rw (← c.self.view_is)
    (record {
      is = λ d. get_or-map residence_in residences c.args.k s d within ∙ ap residence_in (sym c.index.ensures);
      placed = subst P (sym c.index.ensures) (All-get_or P residences c.args.k s within c.self.invariant.placed);
    })
