use Rattle.std.proofs.Common.{arith}
use Rattle.dump_model.proofs.FlagLaws.{flags-told}
use Rattle.transcript_read.proofs.hex_words.address_of.Goals as goal

pub returns : goal.returns
returns c = (
  omega (arith, c.in_ok-first.ensures.0, c.in_ok-second.ensures.0, c.in_ok-third.ensures.0, c.in_ok-fourth.ensures.0),
  flags-told c.args.word.now c.in_ok-first.first c.in_ok-second.second c.in_ok-third.third c.in_ok-fourth.fourth (omega (arith, c.in-len8))
      c.in_ok-first.ensures.0 c.in_ok-second.ensures.0 c.in_ok-third.ensures.0 c.in_ok-fourth.ensures.0 c.in_ok-first.ensures.1 c.in_ok-second.ensures.1
      c.in_ok-third.ensures.1 c.in_ok-fourth.ensures.1,
)
