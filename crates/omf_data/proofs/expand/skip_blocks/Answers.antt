use Rattle.std.proofs.Common.{arith, ◌∙◌, sym}
use Rattle.std.proofs.lemmas.Result.{err_from_is_err_and}
use Rattle.omf_data.proofs.Expanded.{next_passed, refused_passed, passed_all}
use Rattle.omf_data.proofs.expand.skip_blocks.Goals as goal

pub returns-in_err-_len : goal.returns-in_err-_len
returns-in_err-_len c =
    let p = err_from_is_err_and c.from_residual.result c.from_residual.ensures.1 in
    rw (p.1, p.2) (sym c.skipped.invariant ∙ refused_passed c.args.left c.args.wide c.skipped.more c.args.count c.skipped.fields c.in_err-_len.field-0.0 (omega arith) c.in_err-_len.ensures)

pub skipped-preserved : goal.skipped-preserved
skipped-preserved c =
    sym (next_passed c.args.left c.args.wide c.skipped.more c.args.count c.in_ok-_len._len c.skipped.fields c.measured_block.new.fields (omega arith) c.in_ok-_len.ensures) ∙ c.skipped.invariant

pub returns : goal.returns
returns c = sym c.skipped.invariant ∙ passed_all c.args.left c.args.wide c.skipped.more c.args.count c.skipped.fields (omega arith)
