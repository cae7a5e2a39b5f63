use Rattle.process_pages.proofs.Words.{ap, residence_in, ResidenceFor, Some, sym, ℕ, ◌==◌, ◌∙◌}
use Rattle.process_pages.proofs.Positions.{position_map}
use Rattle.process_pages.proofs.residence_finder.ResidenceFinder.find.Goals as goal

pub returns-in-Nowhere : goal.returns-in-Nowhere
returns-in-Nowhere c =
    let residences = c.args.residences.now in
    let right = rw (sym c.known_position.ensures ∙ c.in-Nowhere.is) at (c.requires c.args.m) in
    sym right ∙ position_map (λ (r : ResidenceFor). r.«module» == c.args.m) residence_in residences

pub returns-in-At : goal.returns-in-At
returns-in-At c =
    let residences = c.args.residences.now in
    let right = rw (sym c.known_position.ensures ∙ c.in-At.is) at (c.requires c.args.m) in
    ap (λ (k : ℕ). Some k) c.from.ensures ∙ sym right ∙ position_map (λ (r : ResidenceFor). r.«module» == c.args.m) residence_in residences
