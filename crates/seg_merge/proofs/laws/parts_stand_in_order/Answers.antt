use Rattle.seg_merge.proofs.OriginsOfParts.{offsets-are}
use Rattle.seg_merge.proofs.laws.parts_stand_in_order.Goals as goal

pub returns : goal.returns
returns c = offsets-are
