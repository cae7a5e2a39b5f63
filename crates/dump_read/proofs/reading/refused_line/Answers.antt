use Rattle.std.proofs.Common.{◌-◌, length, take, sym, ap, ◌∙◌, arith}
use Rattle.std.specs.Prelude.{◌&&◌}
use Rattle.dump_read.specs.Ends.{ends, ends_open}
use Rattle.dump_read.proofs.Refusals.{refuses-here, refuses-after, few-lines, taken-front}
use Rattle.dump_read.proofs.reading.refused_line.Goals as goal

pub overflow_add-result : goal.overflow_add-result
overflow_add-result c =
    let bytes = c.args.bytes.now in
    let s = c.args.reader.now in
    let count = c.line_ends-ends.ensures.count ∙ ap ends (ap (λ k. take (length bytes - k) bytes) c.left.ensures ∙ taken-front bytes s c.requires.refused) in
    omega (arith, few-lines bytes s c.line_ends-ends.result c.requires.refused c.requires.short count)

pub returns-then-ends_within : goal.returns-then-ends_within
returns-then-ends_within c =
    let bytes = c.args.bytes.now in
    let s = c.args.reader.now in
    let count = c.line_ends-ends.ensures.count ∙ ap ends (ap (λ k. take (length bytes - k) bytes) c.left.ensures ∙ taken-front bytes s c.requires.refused) in
    refuses-after bytes s c.line_ends-ends.result c.requires.refused
    (ap (λ t. t && ends_open bytes) (sym c.has_begun.ensures) ∙ sym c.ends_within.ensures ∙ c.if-ends_within.true) count

pub overflow_add-result-2 : goal.overflow_add-result-2
overflow_add-result-2 c =
    let bytes = c.args.bytes.now in
    let s = c.args.reader.now in
    let count = c.line_ends-ends.ensures.count ∙ ap ends (ap (λ k. take (length bytes - k) bytes) c.left.ensures ∙ taken-front bytes s c.requires.refused) in
    omega (arith, few-lines bytes s c.line_ends-ends.result c.requires.refused c.requires.short count)

pub returns : goal.returns
returns c =
    let bytes = c.args.bytes.now in
    let s = c.args.reader.now in
    let count = c.line_ends-ends.ensures.count ∙ ap ends (ap (λ k. take (length bytes - k) bytes) c.left.ensures ∙ taken-front bytes s c.requires.refused) in
    refuses-here bytes s c.line_ends-ends.result c.requires.refused
    (ap (λ t. t && ends_open bytes) (sym c.has_begun.ensures) ∙ sym c.ends_within.ensures ∙ c.if-ends_within.false) count
