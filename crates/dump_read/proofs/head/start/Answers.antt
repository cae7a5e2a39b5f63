use Rattle.std.proofs.Common.{subst}
use Rattle.dump_read.specs.Settled.{IsNext}
use Rattle.dump_read.proofs.HeadForms.{none_text, none-reads, some-reads}
use Rattle.dump_read.proofs.head.start.Goals as goal

pub returns-then-is_next : goal.returns-then-is_next
returns-then-is_next c =
    none-reads c.args.reader.now c.is_next.new.self c.word.new.self (subst (λ b. IsNext none_text b c.args.reader.now c.is_next.new.self) c.if-is_next.true c.is_next.ensures) c.word.ensures

pub returns : goal.returns
returns c =
    some-reads c.number-object.result c.number-offset.result c.args.reader.now c.is_next.new.self c.number-object.new.self c.number-offset.new.self
    (subst (λ b. IsNext none_text b c.args.reader.now c.is_next.new.self) c.if-is_next.false c.is_next.ensures) c.number-object.ensures c.number-offset.ensures
