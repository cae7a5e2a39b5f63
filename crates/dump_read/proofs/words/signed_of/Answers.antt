use Rattle.std.proofs.Common.{w32, Ok, subst, sym, ap, ◌∙◌, refl}
use Rattle.std.specs.Prelude.{FitsSigned}
use Rattle.std.proofs.lemmas.Int.{to_z-of_z}
use Rattle.std.specs.Fmt.{signed_decimal}
use Rattle.std.specs.Str.{IsUtf8}
use Rattle.std.proofs.lemmas.Str.{IsUtf8-from_ascii}
use Rattle.std.proofs.lemmas.Fmt.{IsAscii-signed, parse-signed_decimal}
use Rattle.dump_model.proofs.NumberLaws.{no-ok, same-ok, no-true, small-mag, fits-signed}
use Rattle.dump_read.proofs.words.signed_of.Goals as goal

pub returns-in_default : goal.returns-in_default
returns-in_default c a small is = c.in_default.ensures.cases.0 (subst IsUtf8 (sym is) (IsUtf8-from_ascii (signed_decimal a) (IsAscii-signed a (small-mag a small))))

pub returns-in_default-parse : goal.returns-in_default-parse
returns-in_default-parse c a small is =
    no-ok c.in_default-parse.field-0 a _ refl
    (parse-signed_decimal w32 a c.in-Ok.text.now _ (fits-signed a small) (small-mag a small) (c.in-Ok.ensures.cases.0 ∙ is) c.in_default-parse.ensures.value.0)

pub returns-else-is_signed_text : goal.returns-else-is_signed_text
returns-else-is_signed_text c a small is =
    let number = same-ok {E = Unit {0}} c.in-Ok-parse.n a (Ok c.in-Ok-parse.n) refl
    (parse-signed_decimal {E = Unit {0}} w32 a c.in-Ok.text.now (Ok c.in-Ok-parse.n) (fits-signed a small) (small-mag a small) (c.in-Ok.ensures.cases.0 ∙ is) c.in-Ok-parse.ensures.value.0) in
    let fits = subst (FitsSigned w32) (sym number) (fits-signed a small) in
    no-true (c.if-is_signed_text.ensures.1 (is ∙ ap signed_decimal (sym number ∙ sym (to_z-of_z w32 c.in-Ok-parse.n fits))))
