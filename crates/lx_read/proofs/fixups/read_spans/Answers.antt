use Rattle.std.proofs.Common.{◌<◌, ◌≤◌, ℕ, map, sym, ap, ◌∙◌, arith}
use Rattle.std.specs.List.{range_with_len}
use Rattle.lx_model.specs.declared.header_fields.TheConstants.{FIXUP_PAGE_TABLE}
use Rattle.lx_model.specs.Header.{page_count, table}
use Rattle.lx_model.specs.FixupPages.{has_records}
use Rattle.lx_read.proofs.Spans.{has_table, has_none, no_records, start_wrong, span_wrong, span_read, spans_read}
use Rattle.lx_read.proofs.fixups.read_spans.Goals as goal

pub returns-in_default : goal.returns-in_default
returns-in_default c =
    let file = c.args.file.now in
    let none = no_records file (has_none file (has_records file) (table file FIXUP_PAGE_TABLE) (sym c.requires.fixup_pages.0 ∙ c.in_default.is)) in
    (none.0, c.in_ok-no_spans.ensures ∙ ap (λ (n : ℕ). map (λ _. (0, 0)) (range_with_len 0 n)) c.requires.pages ∙ sym none.1)

pub returns-in_err-from : goal.returns-in_err-from
returns-in_err-from c =
    let file = c.args.file.now in
    let has = has_table file (has_records file) (table file FIXUP_PAGE_TABLE) c.in-Some.table (sym c.requires.fixup_pages.0 ∙ c.in-Some.is) in
    start_wrong file c.records_place.result c.in_err-from.field-0.0 c.from_residual-in_err-from.result has c.records_place.ensures c.in_err-from.ensures c.from_residual-in_err-from.ensures.1

pub returns-in_err-to : goal.returns-in_err-to
returns-in_err-to c =
    let file = c.args.file.now in
    let count = c.requires.pages in
    let test = c.loop-k-test.true in
    let lt : c.loop-k.k < page_count file = omega arith in
    span_wrong file c.loop-k.k c.loop-k.from c.loop-k.spans c.records_place-in-loop-k.result c.in_err-to.field-0.0 c.from_residual-in_err-to.result lt c.records_place-in-loop-k.ensures c.in_err-to.ensures c.from_residual-in_err-to.ensures.1 c.loop-k.invariant

pub loop-k-preserved : goal.loop-k-preserved
loop-k-preserved c =
    let file = c.args.file.now in
    let count = c.requires.pages in
    let test = c.loop-k-test.true in
    let lt : c.loop-k.k < page_count file = omega arith in
    span_read file c.loop-k.k c.loop-k.from c.in_ok-to.to c.loop-k.spans c.push.new.self c.records_place-in-loop-k.result lt c.records_place-in-loop-k.ensures c.in_ok-to.ensures c.in_ok-push.ensures c.loop-k.invariant

pub returns : goal.returns
returns c =
    let file = c.args.file.now in
    let count = c.requires.pages in
    let test = c.loop-k-test.false in
    let ended : page_count file ≤ c.loop-k.k = omega arith in
    spans_read file c.loop-k.k c.loop-k.from c.loop-k.spans ended c.loop-k.invariant
