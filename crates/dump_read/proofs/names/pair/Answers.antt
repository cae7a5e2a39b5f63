use Rattle.std.proofs.Common.{refl, sym, ◌∙◌}
use Rattle.dump_read.proofs.NameLaws.{pair-escape, pair-none, pair-plain}
use Rattle.dump_read.proofs.names.pair.Goals as goal

pub returns-in_default : goal.returns-in_default
returns-in_default c b hb is = pair-none c.args.high c.args.low b c.in_default.ensures is

pub returns-then-is_plain : goal.returns-then-is_plain
returns-then-is_plain c b hb is =
    pair-plain c.args.high c.args.low b c.in-Some.byte hb c.in-Some.ensures.0 (sym c.is_plain.ensures ∙ c.if-is_plain.true) c.in-Some.ensures.1 is

pub returns-else-is_plain : goal.returns-else-is_plain
returns-else-is_plain c = (
  c.in-Some.ensures.0,
  refl,
  pair-escape c.in-Some.byte c.args.high c.args.low (sym c.is_plain.ensures ∙ c.if-is_plain.false) c.in-Some.ensures.1,
)
