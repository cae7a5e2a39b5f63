use Rattle.std.proofs.Common.{sym, ap, ◌∙◌}
use Rattle.std.specs.Prelude.{decimal}
use Rattle.dump_model.proofs.NumberLaws.{count-word}
use Rattle.dump_model.proofs.WordLaws.{same-pointwise, pointwise-same}
use Rattle.dump_read.proofs.Steps.{known-reads}
use Rattle.dump_read.specs.Taken.{is_front}
use Rattle.dump_read.proofs.reader.Reader.count.Goals as goal

pub returns : goal.returns
returns c =
    let text = c.as_bytes-digits.ensures.value ∙ c.format.ensures.text in
    known-reads (decimal c.args.n) c.front-word.result.now c.args.after c.eq.result c.begins_with.result c.args.self.now c.settle.new.self
    (count-word c.args.n c.ranges.n.fits) c.requires c.front-word.ensures.front
    (λ yes. same-pointwise c.front-word.result.now c.as_bytes-digits.result.now (sym c.eq.ensures ∙ yes) ∙ text)
    (λ is. c.eq.ensures ∙ pointwise-same c.front-word.result.now c.as_bytes-digits.result.now (is ∙ sym text))
    (c.begins_with.ensures.front ∙ ap (λ xs. is_front c.front-word.result.now xs) text) c.settle.ensures
