use Rattle.std.proofs.Common.{ℕ, ◌+◌, ap, ◌∙◌}
use Rattle.omf_fix.proofs.found.repeat_found.Goals as goal

pub returns : goal.returns
returns c =
    let len = c.in_ok-found.ensures ∙ ap (λ (n : ℕ). c.args.before + n) c.in_ok-product.ensures in
    λ i. (len i, c.in_ok-repeat_places.ensures i, c.args.found.now.contents.items)
