use Rattle.std.proofs.Common.{◌∷◌, ap, subst, sym, ◌∙◌}
use Rattle.std.proofs.lemmas.List.{nil_from_length}
use Rattle.dump_read.specs.Names.{EndsWithin}
use Rattle.dump_read.proofs.NameLaws.{sign-ends, one-digit-ends}
use Rattle.dump_read.proofs.names.escape.Goals as goal

pub returns-in_default : goal.returns-in_default
returns-in_default c = subst (λ xs. EndsWithin (0x25 ∷ xs)) (sym (nil_from_length c.args.after.now c.in_default.ensures.cases)) sign-ends

pub returns-then-is_first_digit : goal.returns-then-is_first_digit
returns-then-is_first_digit c =
    subst (λ xs. EndsWithin (0x25 ∷ xs))
    (sym (c.in-Some.ensures.cases.0 ∙ ap (λ xs. c.in-Some.high.now ∷ xs) (nil_from_length c.in-Some.after.now c.in-None.ensures.cases)))
    (one-digit-ends c.in-Some.high.now (c.is_first_digit.ensures.0 c.if-is_first_digit.true))
