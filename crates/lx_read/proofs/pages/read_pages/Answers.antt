use Rattle.std.proofs.Common.{◌<◌, ◌≤◌, arith}
use Rattle.lx_model.specs.Header.{page_count}
use Rattle.lx_model.specs.Tables.{page_entry, page_place, page_or_zero, page_fault, page_heads, pages_fault}
use Rattle.lx_read.proofs.TableLoop.{entry_wrong, entry_read, table_read, pages_are, pages_judged}
use Rattle.lx_read.proofs.pages.read_pages.Goals as goal

pub returns-in_err-said : goal.returns-in_err-said
returns-in_err-said c =
    let file = c.args.file.now in
    let count = c.requires.pages in
    let test = c.loop-k-test.true in
    let lt : c.loop-k.k < page_count file = omega arith in
    entry_wrong (page_fault file) (λ k. page_or_zero (page_entry file (page_place file k))) (page_count file) c.loop-k.k c.loop-k.pages c.read_page.result c.in_err-said.field-0.0 c.from_residual.result (page_heads file) (pages_fault file) (pages_judged file) lt c.read_page.ensures c.in_err-said.ensures c.from_residual.ensures.1 c.loop-k.invariant

pub loop-k-preserved : goal.loop-k-preserved
loop-k-preserved c =
    let file = c.args.file.now in
    let count = c.requires.pages in
    let test = c.loop-k-test.true in
    let lt : c.loop-k.k < page_count file = omega arith in
    entry_read (page_fault file) (λ k. page_or_zero (page_entry file (page_place file k))) (page_count file) c.loop-k.k c.loop-k.pages c.push.new.self c.read_page.result c.in_ok-said.field-0 lt c.read_page.ensures c.in_ok-said.ensures c.in_ok-push.ensures c.loop-k.invariant

pub returns : goal.returns
returns c =
    let file = c.args.file.now in
    let count = c.requires.pages in
    let test = c.loop-k-test.false in
    let ended : page_count file ≤ c.loop-k.k = omega arith in
    table_read (page_fault file) (λ k. page_or_zero (page_entry file (page_place file k))) (page_count file) c.loop-k.k c.loop-k.pages (page_heads file) (pages_fault file) (pages_judged file) (pages_are file) ended c.loop-k.invariant
