use Rattle.std.proofs.Common.{◌∙◌}
use Rattle.load_model.specs.Refusals.{residence_named}
use Rattle.load_core.specs.BoardState.{BoardState, state_of}
use Rattle.check_play.proofs.AcceptedTouches.{fixed_none, fixed_some}
use Rattle.check_play.proofs.touches.follows.Goals as goal

pub returns-in-Some : goal.returns-in-Some
returns-in-Some c =
    let b : BoardState = c.args.standing.now.board in
    c.are_fixed.ensures
    ∙ fixed_some b.library b.history c.args.at.now (residence_named b.library (state_of b) c.args.pid c.args.at.now.«module») c.in-Some.residence c.in-Some.ensures.found

pub returns-in-None : goal.returns-in-None
returns-in-None c =
    let b : BoardState = c.args.standing.now.board in
    fixed_none b.library b.history c.args.at.now (residence_named b.library (state_of b) c.args.pid c.args.at.now.«module») c.in-None.ensures.found
