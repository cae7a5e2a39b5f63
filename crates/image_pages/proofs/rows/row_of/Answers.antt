use Rattle.std.proofs.Common.{◌≤◌, ◌-◌, ◌*◌, ◌∙◌, arith, refl}
use Rattle.image_pages.proofs.PageRows.{page_pushed, row_done}
use Rattle.image_pages.proofs.rows.row_of.Goals as goal

pub loop-page-preserved : goal.loop-page-preserved
loop-page-preserved g c =
    let k = c.loop-page.page in
    let m = c.args.pages.now in
    let end = c.div_ceil-page-end.ensures in
    let below : k * 4096 ≤ c.args.size = omega (arith, c.loop-page-test.true, end) in
    let fixed = c.deref.ensures ∙ c.page-buffer.ensures.bytes in
    page_pushed m.library m.«module» m.bases c.args.object c.args.size k (c.args.size - k * 4096) c.loop-page.row.items c.push_page.new.row.items c.deref.result.now below refl c.loop-page.invariant fixed c.in_ok-push_page.ensures

pub returns : goal.returns
returns g c =
    let m = c.args.pages.now in
    let end = c.div_ceil-page-end.ensures in
    let past : c.args.size ≤ 4096 * c.loop-page.page = omega (arith, c.loop-page-test.false, end) in
    c.from_vec.ensures ∙ c.loop-page.invariant ∙ row_done m.library m.«module» m.bases c.args.object c.args.size c.loop-page.page past
