use Rattle.std.specs.Prelude.{vec_len, not}
use Rattle.std.proofs.Common.{refl, sym, ap, ◌∙◌, arith}
use Rattle.dump_model.proofs.WordLaws.{same-pointwise, other-pointwise}
use Rattle.dump_read.proofs.Steps.{empty-list, filled-list}
use Rattle.dump_read.proofs.NameLaws.{empty-name, tells-whole, tells-none, filled}
use Rattle.dump_read.proofs.names.is_name.Goals as goal

pub returns-then-eq : goal.returns-then-eq
returns-then-eq c =
    empty-name c.args.word.now c.args.part.now.bytes.items c.args.part.now.left.now c.requires
    (same-pointwise c.args.word.now c.as_slice.result.now (sym c.eq.ensures ∙ c.if-eq.true) ∙ c.as_slice.ensures)

pub returns-then-is_empty : goal.returns-then-is_empty
returns-then-is_empty c =
    let some = filled (vec_len c.args.part.now.bytes) c.args.part.now.bytes.items (omega (arith, c.args.part.now.bytes.ok)) in
    tells-whole _ c.args.word.now c.args.part.now.bytes.items c.args.part.now.left.now c.requires
    (empty-list c.args.part.now.left.now _ refl (sym c.is_empty.ensures ∙ c.if-is_empty.true))
    (λ is. other-pointwise c.args.word.now c.as_slice.result.now (sym c.eq.ensures ∙ c.if-eq.false) (is ∙ sym c.as_slice.ensures))
    (λ h. some.0 (ap not (sym c.is_empty-then-is_empty.ensures) ∙ h))
    (λ h. ap not c.is_empty-then-is_empty.ensures ∙ some.1 h)

pub returns : goal.returns
returns c =
    tells-none c.args.word.now c.args.part.now.bytes.items c.args.part.now.left.now c.requires
    (filled-list c.args.part.now.left.now _ refl (sym c.is_empty.ensures ∙ c.if-is_empty.false))
    (λ is. other-pointwise c.args.word.now c.as_slice.result.now (sym c.eq.ensures ∙ c.if-eq.false) (is ∙ sym c.as_slice.ensures))
