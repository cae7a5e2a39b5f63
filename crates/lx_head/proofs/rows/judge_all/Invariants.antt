use Rattle.std.proofs.Common.{◌≡◌, drop}
use Rattle.lx_head.specs.Rows.{fault_among}
use Rattle.lx_head.proofs.rows.judge_all.Given as goal

-- the fields so far have no fault
abbrev pub invariant-loop-field : goal.invariant-loop-field
invariant-loop-field l = fault_among (drop l.field-index l.fields) l.bytes l.place ≡ fault_among l.fields l.bytes l.place
