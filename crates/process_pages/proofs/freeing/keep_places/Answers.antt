use Rattle.process_pages.proofs.Words.{ap, residences_in, ◌∙◌}
use Rattle.process_pages.proofs.Placing.{cleared_residences, cleared_placed}
use Rattle.process_pages.proofs.freeing.keep_places.Goals as goal

pub returns-clause-residences : goal.returns-clause-residences
returns-clause-residences c = c.place_pages.ensures.residences ∙ ap residences_in c.clear_places.ensures ∙ cleared_residences c.args.residences.now

pub returns-clause-placed : goal.returns-clause-placed
returns-clause-placed c = λ lib apart all.
    rw (← c.as_slice.ensures.value)
    (c.place_pages.ensures.placed lib (rw (ap residences_in c.clear_places.ensures ∙ cleared_residences c.args.residences.now) apart)
    (rw c.clear_places.ensures (cleared_placed lib c.args.pages.now.items c.args.residences.now all)))
