-- What the fields of the counts stand for, and what they keep among themselves.
use Rattle.std.specs.Prelude.{◌≡◌, length}
use Rattle.load_model.specs.ProcessCounts.{ProcessCounts}
use Rattle.mod_refs.specs.Counts.{AreAttached}
use Rattle.mod_refs.specs.declared.load_counts.LoadCounts.TheInside.{Inside}

abbrev pub counts_in : Inside → ProcessCounts
counts_in h = record { started = h.started; loads = h.loads.items; reached = h.reached.items; attached = h.attached.items }

-- Each module has both counts. What is attached has a count and is attached once: so a module without a count finds room.
pub record Keeps (h : Inside) : Type 0 where
  pub each : length h.loads.items ≡ length h.reached.items
  pub attached : AreAttached h.reached.items h.attached.items
