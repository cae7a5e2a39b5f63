use Rattle.std.proofs.Common.{length, ap, arith}
use Rattle.transcript_whole.proofs.Closings.{as_many}
use Rattle.transcript_whole.proofs.whole.told.Goals as goal

pub placed-requires : goal.placed-requires
placed-requires c = omega (arith, ap length c.as_slice.ensures, ap length c.in_ok-steady.ensures, as_many c.args.draft.steady c.args.draft.lines, c.requires)
