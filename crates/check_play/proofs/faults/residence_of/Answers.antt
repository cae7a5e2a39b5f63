use Rattle.check_play.proofs.FaultResidences.{touch_nothing, not_refused}
use Rattle.check_play.proofs.faults.residence_of.Goals as goal

pub unreachable-requires : goal.unreachable-requires
unreachable-requires c =
    not_refused _ c.in-Err.field-0 (touch_nothing c.args.view.now c.args.name.now c.in_ok-copied.field-0 c.args.object c.requires.going c.requires.object c.in_ok-copied.ensures)
    c.in-Err.ensures
