use Rattle.merge_laws.proofs.Steps.{touch_begins, touch_waits, touch_faults, touch_ends}
use Rattle.merge_laws.proofs.laws.touch_grows.Goals as goal

pub returns : goal.returns
returns c = record { begins = touch_begins; waits = touch_waits; faults = touch_faults; ends = touch_ends }
