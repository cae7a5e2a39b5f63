use Rattle.std.proofs.Common.{arith}
use Rattle.dump_model.proofs.FlagLaws.{flags-begun, begun-flags}
use Rattle.dump_read.proofs.words.begins_flags.Goals as goal

pub returns-then-word-gt8 : goal.returns-then-word-gt8
returns-then-word-gt8 c = (λ h. absurd cc, λ b. absurd (omega (arith, (begun-flags c.args.word.now b).0, c.if-word-gt8.true)))

pub returns : goal.returns
returns c = (
  λ h. flags-begun c.args.word.now c.if-word-gt8.false (c.are_digits.ensures.0 h),
  λ b. c.are_digits.ensures.1 (begun-flags c.args.word.now b).1,
)
