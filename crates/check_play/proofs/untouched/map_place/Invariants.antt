use Rattle.check_play.proofs.UntouchedReads.{IsMappedUpTo}
use Rattle.check_play.proofs.untouched.map_place.Given as goal

abbrev pub invariant-loop-number : goal.invariant-loop-number
invariant-loop-number g l = IsMappedUpTo l.fn.board l.board l.fn.view l.view l.residence l.place.object l.initial.number l.number
