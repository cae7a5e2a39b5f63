use Rattle.std.proofs.Common.{sym, subst, ◌∷◌, ◌++◌, []}
use Rattle.load_model.specs.Histories.{state_after}
use Rattle.standing_serials.specs.Standing.{AreSerialsOf}
use Rattle.standing_serials.proofs.Standing.{serials_follow}
use Rattle.standing_serials.proofs.serials.StandingSerials.follow.Goals as goal

pub returns-clause-stand : goal.returns-clause-stand
returns-clause-stand c lib failing contents h follows are =
    subst (AreSerialsOf lib (state_after lib failing (h ++ c.args.entry.now ∷ []))) (sym c.keep.ensures)
    (serials_follow lib failing contents h c.args.entry.now c.args.self.now follows are)
