use Rattle.std.proofs.Common.{◌≢◌, ℕ, [], arith, ap, ◌∙◌, sym}
use Rattle.std.proofs.lemmas.Result.{err_from_is_err_and}
use Rattle.omf_data.proofs.Measured.{total_at, next_total, shorter, refused_total, whole_total}
use Rattle.omf_data.proofs.measure.measured.Goals as goal

pub returns-in_err-next : goal.returns-in_err-next
returns-in_err-next c =
    let some : c.all.fields.left ≢ [] = λ none. let full = c.is_empty.ensures.empty.1 none in absurd cc in
    let h = refused_total c.args.wide c.all.len c.args.fields.now c.all.fields c.in_err-next.field-0.0 c.all.invariant.0 c.is_empty.ensures.bytes some c.in_err-next.ensures in
    let p = err_from_is_err_and c.from_residual.result c.from_residual.ensures.1 in
    rw (p.1, p.2) h

pub all-smaller : goal.all-smaller
all-smaller c = shorter c.args.wide c.in_ok-next.next c.all.fields c.measured_block.new.fields c.is_empty.ensures.bytes c.in_ok-next.ensures

pub all-preserved : goal.all-preserved
all-preserved c =
    let some : c.all.fields.left ≢ [] = λ none. let full = c.is_empty.ensures.empty.1 none in absurd cc in (
      ap (λ (n : ℕ). total_at c.args.wide n c.measured_block.new.fields) c.sum-len.ensures
          ∙ sym (next_total c.args.wide c.all.len c.in_ok-next.next c.all.fields c.measured_block.new.fields c.is_empty.ensures.bytes some c.in_ok-next.ensures)
          ∙ c.all.invariant.0,
      omega (arith, c.sum-len.ensures),
    )

pub returns : goal.returns
returns c = whole_total c.args.wide c.all.len c.args.fields.now c.all.fields c.all.invariant.0 (c.is_empty.ensures.empty.0 c.all-test.false) c.all.invariant.1
