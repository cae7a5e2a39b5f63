use Rattle.std.proofs.Common.{refl, sym, ap, length, ◌∙◌, arith}
use Rattle.dump_model.proofs.WordLaws.{same-pointwise, other-pointwise}
use Rattle.dump_read.proofs.Steps.{empty-list, filled-list}
use Rattle.dump_model.proofs.NumberLaws.{signed-begun, sign-begun, signed-told, told-signed}
use Rattle.dump_read.proofs.words.begins_signed.Goals as goal

pub returns-then-is_empty : goal.returns-then-is_empty
returns-then-is_empty c =
    (λ _. signed-begun c.args.word.now (empty-list c.args.word.now _ refl (sym c.is_empty.ensures ∙ c.if-is_empty.true)), λ _. refl)

pub returns-then-eq : goal.returns-then-eq
returns-then-eq c = (
  λ _. sign-begun c.args.word.now (same-pointwise c.args.word.now c.as_slice.result.now (sym c.eq.ensures ∙ c.if-eq.true) ∙ c.as_slice.ensures),
  λ _. refl,
)

pub returns : goal.returns
returns c = (
  λ yes. signed-told c.signed_of.result c.args.word.now c.signed_of.ensures (sym c.is_some.ensures ∙ yes),
  λ b. c.is_some.ensures
      ∙ told-signed c.signed_of.result c.args.word.now c.signed_of.ensures
      (λ none. omega (arith, ap length none, filled-list c.args.word.now _ refl (sym c.is_empty.ensures ∙ c.if-is_empty.false)))
      (λ is. other-pointwise c.args.word.now c.as_slice.result.now (sym c.eq.ensures ∙ c.if-eq.false) (is ∙ sym c.as_slice.ensures)) b,
)
