use Rattle.board_laws.proofs.Calls.{calls_are_answered}
use Rattle.board_laws.proofs.laws.calls_are_answered.Goals as goal

pub returns : goal.returns
returns c = calls_are_answered
