use Rattle.std.proofs.Common.{arith, ap, ◌∙◌, sym, ◌-◌, ℕ, ◌++◌}
use Rattle.std.proofs.lemmas.Result.{err_from_is_err_and}
use Rattle.omf_fields.specs.Fields.{width, number_at, byte_at, bytes_at}
use Rattle.omf_data.specs.Expanding.{block_data, skipped_at, expanded_at}
use Rattle.lx_types.proofs.Answered.{tells-on, yields-reads, said-tells, said-yields, said-reads}
use Rattle.lx_types.specs.Answers.{as_is}
use Rattle.omf_data.proofs.Onto.{no-len, no-content}
use Rattle.omf_data.proofs.Expanded.{next_data, refused_data, outer_skipped, outer_skip_refused, front_fits, outer_expanded, outer_data_refused}
use Rattle.omf_data.proofs.expand.+expand_block.Goals as goal

pub returns-in_err-said : goal.returns-in_err-said
returns-in_err-said t c =
    let p = err_from_is_err_and c.from_residual-in_err-said.result c.from_residual-in_err-said.ensures.1 in
    let times = said-yields (λ (n : ℕ). n) c.number.result c.in_ok-times.times (number_at (width c.args.wide)) c.args.fields.now c.number.new.self c.number.ensures c.in_ok-times.ensures in
    let count = said-yields (λ (n : ℕ). n) c.word.result c.in_ok-count.count (number_at 2) c.number.new.self c.word.new.self c.word.ensures c.in_ok-count.ensures in
    rw (p.1, p.2) (
    tells-on c.in_err-said.field-0.0 (skipped_at (c.args.left - 1) c.args.wide c.in_ok-count.count c.word.new.self) (expanded_at c.args.left c.args.wide c.args.into.now.items c.args.fields.now)
    (outer_skip_refused c.args.left c.args.wide c.in_ok-times.times c.in_ok-count.count c.args.fields.now c.number.new.self c.word.new.self (omega arith) times count (omega arith) c.args.into.now.items)
    (said-tells _ c.skip_blocks.result c.in_err-said.field-0.0 (skipped_at (c.args.left - 1) c.args.wide c.in_ok-count.count) c.word.new.self c.skip_blocks.new.fields c.skip_blocks.ensures c.in_err-said.ensures)
    )

pub returns-then-times-eq0 : goal.returns-then-times-eq0
returns-then-times-eq0 t c =
    let times = said-yields (λ (n : ℕ). n) c.number.result c.in_ok-times.times (number_at (width c.args.wide)) c.args.fields.now c.number.new.self c.number.ensures c.in_ok-times.ensures in
    let count = said-yields (λ (n : ℕ). n) c.word.result c.in_ok-count.count (number_at 2) c.number.new.self c.word.new.self c.word.ensures c.in_ok-count.ensures in
    outer_skipped c.args.left c.args.wide c.in_ok-times.times c.in_ok-count.count c.args.fields.now c.number.new.self c.word.new.self (omega arith) times count (omega arith) c.args.into.now.items c.skip_blocks.new.fields c.if-times-eq0.true
    (said-reads _ c.skip_blocks.result c.in_ok-said.field-0 (skipped_at (c.args.left - 1) c.args.wide c.in_ok-count.count) c.word.new.self c.skip_blocks.new.fields c.skip_blocks.ensures c.in_ok-said.ensures)

pub returns-in_err-expand_block : goal.returns-in_err-expand_block
returns-in_err-expand_block t c =
    let p = err_from_is_err_and c.from_residual-in_err-expand_block.result c.from_residual-in_err-expand_block.ensures.1 in
    let times = said-yields (λ (n : ℕ). n) c.number.result c.in_ok-times.times (number_at (width c.args.wide)) c.args.fields.now c.number.new.self c.number.ensures c.in_ok-times.ensures in
    let count = said-yields (λ (n : ℕ). n) c.word.result c.in_ok-count.count (number_at 2) c.number.new.self c.word.new.self c.word.ensures c.in_ok-count.ensures in
    rw (p.1, p.2) (
    tells-on c.in_err-expand_block.field-0.0 (expanded_at (c.args.left - 1) c.args.wide c.inner.into.items c.inner.fields) (expanded_at c.args.left c.args.wide c.args.into.now.items c.args.fields.now)
    (λ f is. outer_data_refused c.args.left c.args.wide c.in_ok-times.times c.in_ok-count.count c.args.fields.now c.number.new.self c.word.new.self (omega arith) times count (omega arith) c.args.into.now.items f
    (sym c.inner.invariant ∙ refused_data (c.args.left - 1) c.args.wide c.inner.more c.inner.into.items c.inner.fields f (omega arith) is))
    c.in_err-expand_block.ensures
    )

pub inner-preserved : goal.inner-preserved
inner-preserved t c =
    sym (next_data (c.args.left - 1) c.args.wide c.inner.more c.inner.into.items c.expand_block.new.into.items c.inner.fields c.expand_block.new.fields (omega arith) c.in_ok-expand_block.ensures) ∙ c.inner.invariant

pub repeat_from-requires-clause-there : goal.repeat_from-requires-clause-there
repeat_from-requires-clause-there t c =
    let times = said-yields (λ (n : ℕ). n) c.number.result c.in_ok-times.times (number_at (width c.args.wide)) c.args.fields.now c.number.new.self c.number.ensures c.in_ok-times.ensures in
    let count = said-yields (λ (n : ℕ). n) c.word.result c.in_ok-count.count (number_at 2) c.number.new.self c.word.new.self c.word.ensures c.in_ok-count.ensures in
    let fits = front_fits c.args.left c.args.wide c.in_ok-times.times c.in_ok-count.count c.args.fields.now c.number.new.self c.word.new.self (omega arith) times count (omega arith) c.args.into.now.items c.inner.into.items c.inner.fields c.inner.more (omega arith) c.inner.invariant in
    omega (arith, fits, c.len-start.ensures, c.args.into.now.ok.0, c.inner.into.ok.0)

pub returns : goal.returns
returns t c =
    let times = said-yields (λ (n : ℕ). n) c.number.result c.in_ok-times.times (number_at (width c.args.wide)) c.args.fields.now c.number.new.self c.number.ensures c.in_ok-times.ensures in
    let count = said-yields (λ (n : ℕ). n) c.word.result c.in_ok-count.count (number_at 2) c.number.new.self c.word.new.self c.word.ensures c.in_ok-count.ensures in
    outer_expanded c.args.left c.args.wide c.in_ok-times.times c.in_ok-count.count c.args.fields.now c.number.new.self c.word.new.self (omega arith) times count (omega arith) c.args.into.now.items c.inner.into.items c.inner.fields c.inner.more (omega arith) c.inner.invariant
    c.len-start.result c.repeat_from.new.into.items (c.len-start.ensures ∙ c.args.into.now.ok.0) c.in_ok-repeat_from.ensures

pub returns-in_err-len : goal.returns-in_err-len
returns-in_err-len t c =
    let p = err_from_is_err_and c.from_residual-in_err-len.result c.from_residual-in_err-len.ensures.1 in
    let times = said-yields (λ (n : ℕ). n) c.number.result c.in_ok-times.times (number_at (width c.args.wide)) c.args.fields.now c.number.new.self c.number.ensures c.in_ok-times.ensures in
    let count = said-yields (λ (n : ℕ). n) c.word.result c.in_ok-count.count (number_at 2) c.number.new.self c.word.new.self c.word.ensures c.in_ok-count.ensures in
    rw (p.1, p.2) (
    tells-on c.in_err-len.field-0.0 (byte_at c.word.new.self) (expanded_at c.args.left c.args.wide c.args.into.now.items c.args.fields.now)
    (no-len (λ b. c.args.into.now.items ++ block_data b) c.args.left c.args.wide c.in_ok-times.times c.in_ok-count.count c.args.fields.now c.number.new.self c.word.new.self (omega arith) times count (omega arith))
    (said-tells (λ (n : ℕ). n) c.byte.result c.in_err-len.field-0.0 byte_at c.word.new.self c.byte.new.self (yields-reads (λ (n : ℕ). n) as_is c.byte.result byte_at c.word.new.self c.byte.new.self c.byte.ensures) c.in_err-len.ensures)
    )

pub returns-in_err-content : goal.returns-in_err-content
returns-in_err-content t c =
    let p = err_from_is_err_and c.from_residual-in_err-content.result c.from_residual-in_err-content.ensures.1 in
    let times = said-yields (λ (n : ℕ). n) c.number.result c.in_ok-times.times (number_at (width c.args.wide)) c.args.fields.now c.number.new.self c.number.ensures c.in_ok-times.ensures in
    let count = said-yields (λ (n : ℕ). n) c.word.result c.in_ok-count.count (number_at 2) c.number.new.self c.word.new.self c.word.ensures c.in_ok-count.ensures in
    let len = said-yields (λ (n : ℕ). n) c.byte.result c.in_ok-len.len byte_at c.word.new.self c.byte.new.self c.byte.ensures c.in_ok-len.ensures in
    rw (p.1, p.2) (
    tells-on c.in_err-content.field-0.0 (bytes_at c.from.result c.byte.new.self) (expanded_at c.args.left c.args.wide c.args.into.now.items c.args.fields.now)
    (λ f is. no-content (λ b. c.args.into.now.items ++ block_data b) c.args.left c.args.wide c.in_ok-times.times c.in_ok-count.count c.args.fields.now c.number.new.self c.word.new.self (omega arith) times count (omega arith) c.in_ok-len.len c.byte.new.self f len
    (ap (λ (n : ℕ). bytes_at n c.byte.new.self) (sym c.from.ensures) ∙ is))
    (said-tells _ c.bytes.result c.in_err-content.field-0.0 (bytes_at c.from.result) c.byte.new.self c.bytes.new.self (yields-reads _ as_is c.bytes.result (bytes_at c.from.result) c.byte.new.self c.bytes.new.self c.bytes.ensures.read) c.in_err-content.ensures)
    )
