use Rattle.map_model.proofs.Counted.{tells_all}
use Rattle.map_model.proofs.laws.maps_tell_all.Goals as goal

pub returns : goal.returns
returns c = tells_all c.segments_stand_in_objects.ensures.segments c.segments_stand_in_objects.ensures.communals
