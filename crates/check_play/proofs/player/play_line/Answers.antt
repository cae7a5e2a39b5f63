use Rattle.check_play.proofs.PlayedAlone.{line_alone}
use Rattle.check_play.proofs.player.play_line.Goals as goal

pub returns-in-None : goal.returns-in-None
returns-in-None g c =
    line_alone c.play_reply.result c.args.standing.now c.args.view.now c.args.told.pid c.args.told.line.now c.in-None.ensures c.play_reply.ensures.judged c.play_reply.ensures.stands
