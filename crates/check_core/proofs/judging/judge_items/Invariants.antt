use Rattle.std.proofs.Common.{[], map}
use Rattle.check_model.specs.Told.{Told}
use Rattle.check_model.specs.Checks.{Judge}
use Rattle.check_core.specs.ToldItems.{item_of, item_shown}
use Rattle.check_core.specs.PlayedItems.{IsJudgeOf, StandsBefore}
use Rattle.check_core.proofs.ItemsInTurn.{GoesOn}
use Rattle.check_core.proofs.judging.judge_items.Given as goal

-- what is said of the items that are left is said of all
abbrev pub invariant-loop-place : goal.invariant-loop-place
invariant-loop-place g l =
    (j : Judge) (t : Told) → IsJudgeOf j t l.by.lib.now l.by.scripts.now l.by.most →
    StandsBefore (g.P.Player.stands l.initial.player) j [] (map item_of l.items) l.initial.done →
    GoesOn (g.P.Player.stands l.player) j t (map item_of l.items) (map item_shown l.items) l.place l.done
