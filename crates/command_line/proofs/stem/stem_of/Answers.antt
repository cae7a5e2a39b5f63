use Rattle.std.proofs.Common.{◌≡◌, ℕ, List, length, take, false, ◌∙◌, ap, sym, subst, arith}
use Rattle.std.specs.Prelude.{◌==◌, IfOk}
use Rattle.lx_types.specs.Names.{uppercase}
use Rattle.answer_model.specs.Stem.{stem_of, stem_part}
use Rattle.command_line.proofs.Parts.{upper_stem}
use Rattle.command_line.proofs.stem.stem_of.Goals as goal

pub returns-clause-stem : goal.returns-clause-stem
returns-clause-stem c =
    let path = c.args.path.now in
    let part = c.stem_part-part.result.now in
    let part_is : part ≡ stem_part path = c.stem_part-part.ensures ∙ ap (λ (l : List ℕ). stem_part l) c.as_bytes.ensures.value in
    let some : (length part == 0) ≡ false = grind (arith, c.is_empty.ensures, c.if-is_empty.false) in
    let cut : c.in_ok-of_short.field-0 ≡ take c.min.result part = c.in_ok-of_short.ensures in
    let same : uppercase c.in_ok-of_short.field-0 ≡ stem_of path = ap (λ (l : List ℕ). uppercase l) cut ∙ upper_stem path part c.min.result part_is some c.min.ensures in
    let P : List ℕ → Type 0 = λ t. IfOk c.to_uppercase.result (λ name. name ≡ t) in
    subst P same c.to_uppercase.ensures.letters
