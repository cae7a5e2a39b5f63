use Rattle.std.proofs.Common.{length}
use Rattle.check_play.proofs.Fronts.{accepted_now}
use Rattle.check_play.proofs.asking.act.Goals as goal

pub act-requires-clause-accepted : goal.act-requires-clause-accepted
act-requires-clause-accepted c = accepted_now c.args.view.now c.follow.new.self (length c.args.board.now.history) c.args.command.now c.follow.ensures c.requires.accepted
