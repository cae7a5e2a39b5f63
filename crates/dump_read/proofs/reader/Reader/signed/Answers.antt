use Rattle.std.proofs.Common.{w32, pos, sym, subst, ◌∙◌}
use Rattle.std.specs.Prelude.{FitsSigned}
use Rattle.std.specs.Fmt.{signed_decimal}
use Rattle.std.proofs.lemmas.Int.{to_z-of_z}
use Rattle.dump_model.specs.Bounds.{HasSigned32}
use Rattle.dump_model.specs.Words.{Tells}
use Rattle.dump_model.proofs.NumberLaws.{fits-signed, signed-words}
use Rattle.dump_model.proofs.WordLaws.{told-or}
use Rattle.dump_read.proofs.Steps.{word-reads}
use Rattle.dump_read.proofs.reader.Reader.signed.Goals as goal

pub returns : goal.returns
returns c =
    word-reads signed_decimal HasSigned32 c.args.after signed-words c.requires c.front-word.result.now c.signed_of-told.result c.is_some.result c.begins_signed.result
    _ c.args.self.now c.settle.new.self c.front-word.ensures.front c.is_some.ensures c.settle.ensures c.signed_of-told.ensures
    (λ x is.
    let same = told-or c.signed_of-told.result (pos 0) c.unwrap_or.result x c.unwrap_or.ensures is in
    let range = (subst (λ o. Tells signed_decimal HasSigned32 o c.front-word.result.now) is c.signed_of-told.ensures).0 in
    to_z-of_z w32 c.unwrap_or.result (subst (FitsSigned w32) (sym same) (fits-signed x range)) ∙ same)
    c.begins_signed.ensures
