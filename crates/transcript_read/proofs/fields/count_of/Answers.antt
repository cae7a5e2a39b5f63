use Rattle.std.proofs.Common.{Ok, subst, sym, ap, ◌∙◌, refl, arith}
use Rattle.std.specs.Prelude.{decimal}
use Rattle.std.specs.Str.{IsUtf8}
use Rattle.std.proofs.lemmas.Str.{IsUtf8-from_ascii}
use Rattle.std.proofs.lemmas.Fmt.{IsAscii-decimal, parse-decimal}
use Rattle.dump_model.proofs.NumberLaws.{no-ok, same-ok, no-true}
use Rattle.transcript_read.proofs.fields.count_of.Goals as goal

pub returns-in_default : goal.returns-in_default
returns-in_default c a small is = c.in_default.ensures.cases.0 (subst IsUtf8 (sym is) (IsUtf8-from_ascii (decimal a) (IsAscii-decimal a (omega (arith, small)))))

pub returns-in_default-parse : goal.returns-in_default-parse
returns-in_default-parse c a small is =
    no-ok c.in_default-parse.field-0 a _ refl
    (parse-decimal 64 a c.in-Ok.text.now _ small (omega (arith, small)) (c.in-Ok.ensures.cases.0 ∙ is) c.in_default-parse.ensures.value.0)

pub returns-else-is_count_text : goal.returns-else-is_count_text
returns-else-is_count_text c a small is =
    let number = same-ok {E = Unit {0}} c.in-Ok-parse.n a (Ok c.in-Ok-parse.n) refl
    (parse-decimal {E = Unit {0}} 64 a c.in-Ok.text.now (Ok c.in-Ok-parse.n) small (omega (arith, small)) (c.in-Ok.ensures.cases.0 ∙ is) c.in-Ok-parse.ensures.value.0) in
    no-true (c.if-is_count_text.ensures.1 (is ∙ ap decimal (sym number)))
