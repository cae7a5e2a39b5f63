use Rattle.merge_laws.proofs.Views.{touch_accepted, touch_fixed, fault_for_touch, touch_mapped, written_mapped, left_mapped}
use Rattle.merge_laws.proofs.laws.views_touch.Goals as goal

pub returns : goal.returns
returns c = record { accepted = touch_accepted c.views_answer.ensures.refusals; fixed = touch_fixed; faults = fault_for_touch; mapped = touch_mapped; written = written_mapped; left = left_mapped }
