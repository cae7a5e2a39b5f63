use Rattle.std.proofs.Common.{ap, Some, ℕ, [], ◌++◌, ◌∙◌, ◌∷◌}
use Rattle.process_pages.proofs.Positions.{first_right}
use Rattle.process_pages.proofs.residence_finder.joined_at.Goals as goal

pub returns-in-Nowhere : goal.returns-in-Nowhere
returns-in-Nowhere c = λ r rs long is.
    c.position_at.ensures r.«module» (rs ++ r ∷ []) (first_right r rs (rw c.in-Nowhere.is at is) ∙ ap (λ (k : ℕ). Some k) long)
