use Rattle.seg_merge.proofs.NumbersOfObjects.{object-numbers}
use Rattle.seg_merge.proofs.laws.objects_are_numbered.Goals as goal

pub returns : goal.returns
returns c = object-numbers
