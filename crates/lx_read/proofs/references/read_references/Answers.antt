use Rattle.std.proofs.Common.{◌<◌, ◌≤◌, ◌∙◌, arith}
use Rattle.lx_model.specs.Header.{page_count}
use Rattle.lx_model.specs.Reading.{first_of}
use Rattle.lx_model.specs.Module.{refs_of, page_records_fault}
use Rattle.lx_read.specs.Targets.{targets}
use Rattle.lx_read.proofs.TableLoop.{failed}
use Rattle.lx_read.proofs.PageReferences.{span_count, span_is, span_fits, page_good, page_bad, pages_end}
use Rattle.lx_read.proofs.references.read_references.Goals as goal

pub add_page-requires-clause-order : goal.add_page-requires-clause-order
add_page-requires-clause-order c = (span_fits c.args.within.now.file.now c.args.spans.now c.loop-span.span-index (0, 0) c.requires.spans c.requires.good c.loop-span-test.true).0

pub add_page-requires-clause-end : goal.add_page-requires-clause-end
add_page-requires-clause-end c = (span_fits c.args.within.now.file.now c.args.spans.now c.loop-span.span-index (0, 0) c.requires.spans c.requires.good c.loop-span-test.true).1

pub returns-in_err-add_page : goal.returns-in_err-add_page
returns-in_err-add_page c =
    let file = c.args.within.now.file.now in
    let k = c.loop-span.span-index in
    let count = span_count file c.args.spans.now c.requires.spans in
    let test = c.loop-span-test.true in
    let lt : k < page_count file = omega arith in
    failed c.from_residual.result (refs_of file) (first_of (page_count file) (page_records_fault file)) c.in_err-add_page.field-0.0 c.from_residual.ensures.1
    (page_bad file k (targets c.args.within.now) _ c.loop-span.references.keys c.add_page.new.references.keys c.in_err-add_page.field-0.0 (refs_of file) c.requires.targets
    (span_is file c.args.spans.now k (0, 0) c.requires.spans lt) lt c.in_err-add_page.ensures c.loop-span.invariant)

pub loop-span-preserved : goal.loop-span-preserved
loop-span-preserved c =
    let file = c.args.within.now.file.now in
    let k = c.loop-span.span-index in
    let count = span_count file c.args.spans.now c.requires.spans in
    let test = c.loop-span-test.true in
    let lt : k < page_count file = omega arith in
    page_good file k (targets c.args.within.now) _ c.loop-span.references.keys c.add_page.new.references.keys c.in_ok-add_page.field-0 c.requires.targets
    (span_is file c.args.spans.now k (0, 0) c.requires.spans lt) lt c.in_ok-add_page.ensures c.loop-span.invariant

pub returns : goal.returns
returns c =
    let file = c.args.within.now.file.now in
    let count = span_count file c.args.spans.now c.requires.spans in
    let test = c.loop-span-test.false in
    let ended : page_count file ≤ c.loop-span.span-index = omega arith in
    let whole = pages_end file c.loop-span.span-index c.loop-span.references.keys ended c.loop-span.invariant in
    (whole.0, c.in_ok-listed.ensures ∙ whole.1)
