use Rattle.std.proofs.Common.{◌-◌}
use Rattle.lx_model.specs.RecordFields.{offsets_at}
use Rattle.lx_fixrec.proofs.Offsets.{Follows}
use Rattle.lx_fixrec.proofs.record.skip_offsets.Given as goal

-- the offsets that are left are the last of all
abbrev pub invariant-loop : goal.invariant-loop
invariant-loop l = Follows (offsets_at (l.count - l.counter) l.source l.fields) (offsets_at l.count l.source l.fn.fields)
