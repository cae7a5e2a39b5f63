use Rattle.std.proofs.Common.{◌∙◌, sym, ℕ, [], ◌≢◌, Ok, Vec, Global}
use Rattle.obj_types.specs.declared.limits.TheConstants.{MAX_DEPTH}
use Rattle.omf_data.specs.Expanding.{expanded_at}
use Rattle.std.proofs.lemmas.Result.{err_from_is_err_and}
use Rattle.omf_data.proofs.Expanded.{next_all, shorter_after, whole_data, never_refused, never_said, left_over}
use Rattle.omf_data.proofs.expand.expanded.Goals as goal

pub all-smaller : goal.all-smaller
all-smaller c = shorter_after c.args.wide c.all.bytes.items c.expand_block.new.into.items c.all.fields c.expand_block.new.fields c.is_empty.ensures.bytes c.in_ok-expand_block.ensures

pub all-preserved : goal.all-preserved
all-preserved c =
    let some : c.all.fields.left ≢ [] = left_over c.is_empty.result c.all.fields.left c.is_empty.ensures.empty.1 c.all-test.true in
    sym (next_all c.args.wide c.all.bytes.items c.expand_block.new.into.items c.all.fields c.expand_block.new.fields c.is_empty.ensures.bytes some c.in_ok-expand_block.ensures) ∙ c.all.invariant

pub returns-in_err-expand_block : goal.returns-in_err-expand_block
returns-in_err-expand_block c =
    let some : c.all.fields.left ≢ [] = left_over c.is_empty.result c.all.fields.left c.is_empty.ensures.empty.1 c.all-test.true in
    let p = err_from_is_err_and c.from_residual-in_err-expand_block.result c.from_residual-in_err-expand_block.ensures.1 in
    rw (p.1, p.2) (never_said {B = Vec ℕ Global} (λ v. v.items) c.in_err-expand_block.field-0.0 (expanded_at MAX_DEPTH c.args.wide c.all.bytes.items c.all.fields) _
    (λ f is. never_refused c.args.wide c.args.body.now c.requires c.of-fields.result c.of-fields.ensures.bytes c.all.bytes.items c.all.fields f c.all.invariant c.is_empty.ensures.bytes some is)
    c.in_err-expand_block.ensures)

pub returns : goal.returns
returns c =
    let whole = whole_data c.args.wide c.args.body.now c.requires c.of-fields.result c.of-fields.ensures.bytes c.all.bytes.items c.all.fields c.all.invariant (c.is_empty.ensures.empty.0 c.all-test.false) in
    (λ i. Ok (sym whole i))
