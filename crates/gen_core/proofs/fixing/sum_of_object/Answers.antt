use Rattle.std.proofs.Common.{◌∙◌, ap, sym}
use Rattle.std.specs.Prelude.{slice_index}
use Rattle.lx_model.specs.ModuleBytes.{fixed_page}
use Rattle.gen_core.specs.Fixing.{front_words, page_words, total}
use Rattle.gen_core.proofs.Words.{no_pages, page_further, total_more}
use Rattle.gen_core.proofs.fixing.sum_of_object.Goals as goal

pub loop-page-init : goal.loop-page-init
loop-page-init g c =
    let m = c.args.pages.now in
    sym (ap total (no_pages m.library m.«module» m.bases c.args.object))

pub loop-page-preserved : goal.loop-page-preserved
loop-page-preserved g c =
    let m = c.args.pages.now in
    let k = c.loop-page.page in
    let front = front_words m.library m.bases m.«module» c.args.object k in
    let page = page_words (slice_index (fixed_page m.library m.«module» m.bases (record { object = c.args.object; page = k }))) in
    total_more front page c.loop-page.sum c.in_ok-sum.field-0 c.loop-page.invariant c.in_ok-sum.ensures ∙ ap total (page_further m.library m.«module» m.bases c.args.object k)
