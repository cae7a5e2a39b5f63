use Rattle.std.proofs.Common.{◌-◌}
use Rattle.std.specs.List.{range_with_len}
use Rattle.page_frames.specs.Residences.{ResidenceFor}
use Rattle.check_play.specs.Mapping.{residence_at, HasMore}
use Rattle.check_play.proofs.touches.map_place.Given as goal

abbrev pub invariant-loop-number : goal.invariant-loop-number
invariant-loop-number g l =
    (d : ResidenceFor) → HasMore l.fn.view l.view (residence_at l.fn.view l.residence d) l.place.object (range_with_len l.initial.number (l.number - l.initial.number))
