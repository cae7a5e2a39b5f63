use Rattle.std.proofs.Common.{ℕ, ◌-◌, ◌*◌, Ok, arith, ap, ◌∙◌, sym}
use Rattle.std.proofs.lemmas.Result.{err_from_is_err_and}
use Rattle.omf_fields.specs.Fields.{bytes_at}
use Rattle.omf_model.specs.Copies.{capped}
use Rattle.omf_data.specs.Expanding.{block_len}
use Rattle.omf_data.proofs.Onto.{no-len, no-content, innermost-seen, bytes-long}
use Rattle.omf_data.proofs.Measured.{lens_at, next_len, refused_len, outer_measured, outer_refused}
use Rattle.omf_data.proofs.measure.+measured_block.Goals as goal

pub returns-in_err-len-2 : goal.returns-in_err-len-2
returns-in_err-len-2 t c =
    let refused = refused_len (c.args.left - 1) c.args.wide c.inner.more c.inner.inner c.inner.fields c.in_err-len-2.field-0.0 (omega arith) c.in_err-len-2.ensures in
    let h = outer_refused c.args.left c.args.wide c.in_ok-times.times c.in_ok-count.count c.args.fields.now c.number.new.self c.word.new.self (omega arith) c.in_ok-times.ensures c.in_ok-count.ensures (omega arith)
    c.in_err-len-2.field-0.0 (sym c.inner.invariant.0 ∙ refused) in
    let p = err_from_is_err_and c.from_residual-in_err-len-2.result c.from_residual-in_err-len-2.ensures.1 in
    rw (p.1, p.2) h

pub inner-preserved : goal.inner-preserved
inner-preserved t c = (
  ap (λ (n : ℕ). lens_at (c.args.left - 1) c.args.wide (c.inner.more - 1) n c.measured_block.new.fields) c.sum-inner.ensures
      ∙ sym (next_len (c.args.left - 1) c.args.wide c.inner.more c.inner.inner c.in_ok-len-2.len c.inner.fields c.measured_block.new.fields (omega arith) c.in_ok-len-2.ensures)
      ∙ c.inner.invariant.0,
  omega (arith, c.sum-inner.ensures),
)

pub returns : goal.returns
returns t c =
    let h = outer_measured c.args.left c.args.wide c.in_ok-times.times c.in_ok-count.count c.args.fields.now c.number.new.self c.word.new.self (omega arith) c.in_ok-times.ensures c.in_ok-count.ensures (omega arith)
    c.inner.inner c.inner.fields c.inner.more (omega arith) c.inner.invariant.0 in
    h ∙ (λ i. Ok (sym c.product-2.ensures i, c.inner.fields))

pub returns-in_err-len : goal.returns-in_err-len
returns-in_err-len t c =
    let p = err_from_is_err_and c.from_residual-in_err-len.result c.from_residual-in_err-len.ensures.1 in
    rw (p.1, p.2) (no-len (λ b. capped (block_len b)) c.args.left c.args.wide c.in_ok-times.times c.in_ok-count.count c.args.fields.now c.number.new.self c.word.new.self (omega arith) c.in_ok-times.ensures c.in_ok-count.ensures (omega arith) c.in_err-len.field-0.0 c.in_err-len.ensures.0)

pub returns-in_err-_content : goal.returns-in_err-_content
returns-in_err-_content t c =
    let p = err_from_is_err_and c.from_residual-in_err-_content.result c.from_residual-in_err-_content.ensures.1 in
    let refused = ap (λ (n : ℕ). bytes_at n c.byte.new.self) (sym c.from.ensures) ∙ c.in_err-_content.ensures.read.0 in
    rw (p.1, p.2) (no-content (λ b. capped (block_len b)) c.args.left c.args.wide c.in_ok-times.times c.in_ok-count.count c.args.fields.now c.number.new.self c.word.new.self (omega arith) c.in_ok-times.ensures c.in_ok-count.ensures (omega arith) c.in_ok-len.len c.byte.new.self c.in_err-_content.field-0.0 c.in_ok-len.ensures refused)

pub returns-then-count-eq0 : goal.returns-then-count-eq0
returns-then-count-eq0 t c =
    let read = ap (λ (n : ℕ). bytes_at n c.byte.new.self) (sym c.from.ensures) ∙ c.in_ok-_content.ensures.read in
    let long = bytes-long c.in_ok-len.len c.byte.new.self c.bytes.new.self c.in_ok-_content._content.now read in
    let same = c.product.ensures ∙ ap (λ (n : ℕ). capped (c.in_ok-times.times * n)) (c.from-then-count-eq0.ensures ∙ sym long) in
    innermost-seen (λ b. capped (block_len b)) c.args.left c.args.wide c.in_ok-times.times c.in_ok-count.count c.args.fields.now c.number.new.self c.word.new.self (omega arith) c.in_ok-times.ensures c.in_ok-count.ensures (omega arith) c.in_ok-len.len c.byte.new.self c.bytes.new.self c.in_ok-_content._content.now c.in_ok-len.ensures read
    ∙ (λ i. Ok (sym same i, c.bytes.new.self))
