use Rattle.dump_read.proofs.NameLaws.{first-low, first-high}
use Rattle.dump_read.proofs.names.is_first_digit.Goals as goal

pub returns-then-high-le2 : goal.returns-then-high-le2
returns-then-high-le2 c = first-low c.args.byte c.in-Some.high c.in-Some.ensures.0 c.in-Some.ensures.1 c.if-high-le2.true

pub returns-else-high-le2 : goal.returns-else-high-le2
returns-else-high-le2 c = first-high c.args.byte c.in-Some.high c.in-Some.ensures.0 c.in-Some.ensures.1 c.if-high-le2.false
