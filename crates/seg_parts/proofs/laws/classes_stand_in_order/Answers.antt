use Rattle.seg_parts.proofs.ClassOrder.{classes_in_order}
use Rattle.seg_parts.proofs.laws.classes_stand_in_order.Goals as goal

pub returns : goal.returns
returns c = classes_in_order
