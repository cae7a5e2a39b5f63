use Rattle.std.specs.Arc.{arc_value}
use Rattle.check_play.proofs.NewViews.{new_together}
use Rattle.check_play.proofs.player.SessionPlayer.new.Goals as goal

pub returns : goal.returns
returns g c j after over =
    new_together c.histories_grow.ensures.nothing c.views_stand.ensures.new c.mapped_pages_move.ensures.nothing (arc_value c.args.lib.now) c.args.failing.now c.args.processes j after c.in_ok-standing.standing c.in_ok-views.views.items
    over c.in_ok-standing.ensures.board c.in_ok-standing.ensures.standing c.in_ok-views.ensures
