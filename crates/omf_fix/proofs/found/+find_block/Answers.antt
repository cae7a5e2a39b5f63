use Rattle.std.proofs.Common.{arith, ◌∙◌, sym, ap, ◌-◌, ℕ, ltb, refl, Ok}
use Rattle.std.proofs.lemmas.Bool.{lt-ltb, le-ltb}
use Rattle.std.proofs.lemmas.Result.{err_from_is_err_and}
use Rattle.omf_fields.specs.Fields.{width, number_at, byte_at, bytes_at}
use Rattle.omf_fix.specs.Found.{with_block, found_at, found_in}
use Rattle.lx_types.proofs.Answered.{tells-on, yields-reads, said-tells, said-yields}
use Rattle.lx_types.specs.Answers.{as_is}
use Rattle.omf_data.proofs.Onto.{no-len, no-content}
use Rattle.omf_fix.proofs.BlockFound.{next_found, refused_found, in_block, front_fits, outer_refused, outer_copied, outer_dead, innermost_found}
use Rattle.omf_fix.proofs.found.+find_block.Goals as goal

pub returns-then-count-eq0 : goal.returns-then-count-eq0
returns-then-count-eq0 t c =
    let times = said-yields (λ (n : ℕ). n) c.number.result c.in_ok-read.read (number_at (width c.args.sought.wide)) c.args.fields.now c.number.new.self c.number.ensures c.in_ok-read.ensures in
    let count = said-yields (λ (n : ℕ). n) c.word.result c.in_ok-count.count (number_at 2) c.number.new.self c.word.new.self c.word.ensures c.in_ok-count.ensures in
    let len = said-yields (λ (n : ℕ). n) c.byte.result c.in_ok-len.len byte_at c.word.new.self c.byte.new.self c.byte.ensures c.in_ok-len.ensures in
    let content = said-yields (λ b. b.now) c.bytes.result c.in_ok-_content._content (bytes_at c.from.result) c.byte.new.self c.bytes.new.self c.bytes.ensures.read c.in_ok-_content.ensures in
    innermost_found c.args.sought.number c.args.left c.args.sought.wide c.args.live c.in_ok-read.read c.in_ok-len.len c.live_times-times.result (c.at-first.result - 3) (c.at-past.result - 3) c.in_ok-_content._content.now (found_in c.args.found.now) (found_in c.find_content.new.found) c.args.fields.now c.number.new.self c.word.new.self c.byte.new.self c.bytes.new.self
    (omega arith) c.requires times (count ∙ (λ i. Ok (c.if-count-eq0.true i, c.word.new.self))) len (ap (λ (n : ℕ). bytes_at n c.byte.new.self) (sym c.from.ensures) ∙ content)
    (c.live_times-times.ensures) (ap (λ (n : ℕ). n - 3) c.at-first.ensures) (ap (λ (n : ℕ). n - 3) c.at-past.ensures) c.in_ok-find_content.ensures

pub inner-init : goal.inner-init
inner-init t c =
    let times = said-yields (λ (n : ℕ). n) c.number.result c.in_ok-read.read (number_at (width c.args.sought.wide)) c.args.fields.now c.number.new.self c.number.ensures c.in_ok-read.ensures in
    let count = said-yields (λ (n : ℕ). n) c.word.result c.in_ok-count.count (number_at 2) c.number.new.self c.word.new.self c.word.ensures c.in_ok-count.ensures in
    (refl, in_block c.args.sought.number c.args.left c.args.sought.wide c.args.live c.in_ok-read.read c.in_ok-count.count c.args.fields.now c.number.new.self c.word.new.self (omega arith) times count (omega arith) c.requires)

pub returns-in_err-find_block : goal.returns-in_err-find_block
returns-in_err-find_block t c =
    let p = err_from_is_err_and c.from_residual-in_err-find_block.result c.from_residual-in_err-find_block.ensures.1 in
    let times = said-yields (λ (n : ℕ). n) c.number.result c.in_ok-read.read (number_at (width c.args.sought.wide)) c.args.fields.now c.number.new.self c.number.ensures c.in_ok-read.ensures in
    let count = said-yields (λ (n : ℕ). n) c.word.result c.in_ok-count.count (number_at 2) c.number.new.self c.word.new.self c.word.ensures c.in_ok-count.ensures in
    rw (p.1, p.2) (
    tells-on c.in_err-find_block.field-0.0 (found_at c.args.sought.number (c.args.left - 1) c.args.sought.wide (ltb 0 c.live_times-times.result) (found_in c.inner.found) c.inner.fields) (found_at c.args.sought.number c.args.left c.args.sought.wide c.args.live (found_in c.args.found.now) c.args.fields.now)
    (λ f is. outer_refused c.args.sought.number c.args.left c.args.sought.wide c.args.live c.in_ok-read.read c.in_ok-count.count c.args.fields.now c.number.new.self c.word.new.self (omega arith) times count (omega arith) c.requires (ltb 0 c.live_times-times.result) (found_in c.args.found.now) f
    (sym c.inner.invariant.0 ∙ refused_found c.args.sought.number (c.args.left - 1) c.args.sought.wide (ltb 0 c.live_times-times.result) c.inner.more (found_in c.inner.found) c.inner.fields f (omega arith) is))
    c.in_err-find_block.ensures
    )

pub inner-preserved : goal.inner-preserved
inner-preserved t c =
    let n = next_found c.args.sought.number (c.args.left - 1) c.args.sought.wide (ltb 0 c.live_times-times.result) c.inner.more (found_in c.inner.found) (found_in c.find_block.new.found) c.inner.fields c.find_block.new.fields (omega arith) c.inner.invariant.1 c.in_ok-find_block.ensures in
    (sym n.0 ∙ c.inner.invariant.0, n.1)

pub repeat_found-requires-clause-there : goal.repeat_found-requires-clause-there
repeat_found-requires-clause-there t c =
    let times = said-yields (λ (n : ℕ). n) c.number.result c.in_ok-read.read (number_at (width c.args.sought.wide)) c.args.fields.now c.number.new.self c.number.ensures c.in_ok-read.ensures in
    let count = said-yields (λ (n : ℕ). n) c.word.result c.in_ok-count.count (number_at 2) c.number.new.self c.word.new.self c.word.ensures c.in_ok-count.ensures in
    let fits = front_fits c.args.sought.number c.args.left c.args.sought.wide c.args.live c.in_ok-read.read c.in_ok-count.count c.args.fields.now c.number.new.self c.word.new.self (omega arith) times count (omega arith) c.requires (ltb 0 c.live_times-times.result) (found_in c.args.found.now) (found_in c.inner.found) c.inner.fields c.inner.more (omega arith) c.inner.invariant.0 in
    omega (arith, fits.0, c.len-start.ensures, c.args.found.now.places.ok.0, c.inner.found.places.ok.0)

pub repeat_found-requires-clause-before : goal.repeat_found-requires-clause-before
repeat_found-requires-clause-before t c =
    let times = said-yields (λ (n : ℕ). n) c.number.result c.in_ok-read.read (number_at (width c.args.sought.wide)) c.args.fields.now c.number.new.self c.number.ensures c.in_ok-read.ensures in
    let count = said-yields (λ (n : ℕ). n) c.word.result c.in_ok-count.count (number_at 2) c.number.new.self c.word.new.self c.word.ensures c.in_ok-count.ensures in
    let fits = front_fits c.args.sought.number c.args.left c.args.sought.wide c.args.live c.in_ok-read.read c.in_ok-count.count c.args.fields.now c.number.new.self c.word.new.self (omega arith) times count (omega arith) c.requires (ltb 0 c.live_times-times.result) (found_in c.args.found.now) (found_in c.inner.found) c.inner.fields c.inner.more (omega arith) c.inner.invariant.0 in
    fits.1

pub returns-in_ok-repeat_found : goal.returns-in_ok-repeat_found
returns-in_ok-repeat_found t c =
    let times = said-yields (λ (n : ℕ). n) c.number.result c.in_ok-read.read (number_at (width c.args.sought.wide)) c.args.fields.now c.number.new.self c.number.ensures c.in_ok-read.ensures in
    let count = said-yields (λ (n : ℕ). n) c.word.result c.in_ok-count.count (number_at 2) c.number.new.self c.word.new.self c.word.ensures c.in_ok-count.ensures in
    outer_copied c.args.sought.number c.args.left c.args.sought.wide c.args.live c.in_ok-read.read c.in_ok-count.count c.args.fields.now c.number.new.self c.word.new.self (omega arith) times count (omega arith) c.requires (ltb 0 c.live_times-times.result) (found_in c.args.found.now) (found_in c.inner.found) c.inner.fields c.inner.more (omega arith) c.inner.invariant.0
    c.live_times-times.result c.len-start.result c.args.found.now.len (found_in c.repeat_found.new.found) c.live_times-times.ensures (lt-ltb _ _ (omega (arith, c.if-times-gt0.true))) (c.len-start.ensures ∙ c.args.found.now.places.ok.0) refl c.in_ok-repeat_found.ensures

pub returns-else-times-gt0 : goal.returns-else-times-gt0
returns-else-times-gt0 t c =
    let times = said-yields (λ (n : ℕ). n) c.number.result c.in_ok-read.read (number_at (width c.args.sought.wide)) c.args.fields.now c.number.new.self c.number.ensures c.in_ok-read.ensures in
    let count = said-yields (λ (n : ℕ). n) c.word.result c.in_ok-count.count (number_at 2) c.number.new.self c.word.new.self c.word.ensures c.in_ok-count.ensures in
    outer_dead c.args.sought.number c.args.left c.args.sought.wide c.args.live c.in_ok-read.read c.in_ok-count.count c.args.fields.now c.number.new.self c.word.new.self (omega arith) times count (omega arith) c.requires (ltb 0 c.live_times-times.result) (found_in c.args.found.now) (found_in c.inner.found) c.inner.fields c.inner.more (omega arith) c.inner.invariant.0
    c.live_times-times.result c.live_times-times.ensures (le-ltb _ _ (omega (arith, c.if-times-gt0.false))) (omega (arith, c.if-times-gt0.false))

pub returns-in_err-len : goal.returns-in_err-len
returns-in_err-len t c =
    let p = err_from_is_err_and c.from_residual-in_err-len.result c.from_residual-in_err-len.ensures.1 in
    let times = said-yields (λ (n : ℕ). n) c.number.result c.in_ok-read.read (number_at (width c.args.sought.wide)) c.args.fields.now c.number.new.self c.number.ensures c.in_ok-read.ensures in
    let count = said-yields (λ (n : ℕ). n) c.word.result c.in_ok-count.count (number_at 2) c.number.new.self c.word.new.self c.word.ensures c.in_ok-count.ensures in
    rw (p.1, p.2) (
    tells-on c.in_err-len.field-0.0 (byte_at c.word.new.self) (found_at c.args.sought.number c.args.left c.args.sought.wide c.args.live (found_in c.args.found.now) c.args.fields.now)
    (no-len (with_block c.args.sought.number c.args.sought.wide c.args.live (c.args.fields.now.at - 3) (found_in c.args.found.now)) c.args.left c.args.sought.wide c.in_ok-read.read c.in_ok-count.count c.args.fields.now c.number.new.self c.word.new.self (omega arith) times count (omega arith))
    (said-tells (λ (n : ℕ). n) c.byte.result c.in_err-len.field-0.0 byte_at c.word.new.self c.byte.new.self (yields-reads (λ (n : ℕ). n) as_is c.byte.result byte_at c.word.new.self c.byte.new.self c.byte.ensures) c.in_err-len.ensures)
    )

pub returns-in_err-_content : goal.returns-in_err-_content
returns-in_err-_content t c =
    let p = err_from_is_err_and c.from_residual-in_err-_content.result c.from_residual-in_err-_content.ensures.1 in
    let times = said-yields (λ (n : ℕ). n) c.number.result c.in_ok-read.read (number_at (width c.args.sought.wide)) c.args.fields.now c.number.new.self c.number.ensures c.in_ok-read.ensures in
    let count = said-yields (λ (n : ℕ). n) c.word.result c.in_ok-count.count (number_at 2) c.number.new.self c.word.new.self c.word.ensures c.in_ok-count.ensures in
    let len = said-yields (λ (n : ℕ). n) c.byte.result c.in_ok-len.len byte_at c.word.new.self c.byte.new.self c.byte.ensures c.in_ok-len.ensures in
    rw (p.1, p.2) (
    tells-on c.in_err-_content.field-0.0 (bytes_at c.from.result c.byte.new.self) (found_at c.args.sought.number c.args.left c.args.sought.wide c.args.live (found_in c.args.found.now) c.args.fields.now)
    (λ f is. no-content (with_block c.args.sought.number c.args.sought.wide c.args.live (c.args.fields.now.at - 3) (found_in c.args.found.now)) c.args.left c.args.sought.wide c.in_ok-read.read c.in_ok-count.count c.args.fields.now c.number.new.self c.word.new.self (omega arith) times count (omega arith) c.in_ok-len.len c.byte.new.self f len
    (ap (λ (n : ℕ). bytes_at n c.byte.new.self) (sym c.from.ensures) ∙ is))
    (said-tells _ c.bytes.result c.in_err-_content.field-0.0 (bytes_at c.from.result) c.byte.new.self c.bytes.new.self (yields-reads _ as_is c.bytes.result (bytes_at c.from.result) c.byte.new.self c.bytes.new.self c.bytes.ensures.read) c.in_err-_content.ensures)
    )
