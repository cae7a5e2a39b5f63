use Rattle.std.specs.Arc.{arc_value}
use Rattle.check_play.specs.Playing.{AreNewViews}
use Rattle.check_play.proofs.player.new_views.Given as goal

abbrev pub invariant-loop-before : goal.invariant-loop-before
invariant-loop-before l = AreNewViews (arc_value l.lib) l.before l.views.items
