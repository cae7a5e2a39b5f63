use Rattle.std.proofs.Common.{refl, sym, ◌∙◌}
use Rattle.dump_read.proofs.Steps.{empty-list, filled-list}
use Rattle.dump_model.proofs.NumberLaws.{number-begun, number-told, told-number}
use Rattle.dump_read.proofs.words.begins_number.Goals as goal

pub returns-then-is_empty : goal.returns-then-is_empty
returns-then-is_empty c =
    (λ _. number-begun c.args.word.now (empty-list c.args.word.now _ refl (sym c.is_empty.ensures ∙ c.if-is_empty.true)), λ _. refl)

pub returns : goal.returns
returns c = (
  λ yes. number-told c.number_of.result c.args.word.now c.number_of.ensures (sym c.is_some.ensures ∙ yes),
  λ b. c.is_some.ensures
      ∙ told-number c.number_of.result c.args.word.now c.number_of.ensures (filled-list c.args.word.now _ refl (sym c.is_empty.ensures ∙ c.if-is_empty.false)) b,
)
