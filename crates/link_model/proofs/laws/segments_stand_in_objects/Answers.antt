use Rattle.link_model.proofs.SegmentsStand.{segments_stand, communals_stand}
use Rattle.link_model.proofs.laws.segments_stand_in_objects.Goals as goal

pub returns-clause-segments : goal.returns-clause-segments
returns-clause-segments c = segments_stand

pub returns-clause-communals : goal.returns-clause-communals
returns-clause-communals c = communals_stand
