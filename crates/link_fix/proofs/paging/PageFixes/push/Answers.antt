use Rattle.std.proofs.Common.{◌∙◌, ap, cond, List, ◌==◌}
use Rattle.lx_types.specs.declared.fix.Fix.{Fix}
use Rattle.link_fix.proofs.PageRows.{push-row, with_fix}
use Rattle.link_fix.proofs.paging.PageFixes.push.Goals as goal

pub returns : goal.returns
returns c = λ n k.
    push-row c.add_rows.new.self.rows.items c.args.object c.args.page c.index_mut.result.now c.push_on_page.new.row c.args.fix c.in_ok-add_rows.ensures.len c.index_mut.ensures.value c.in_ok-push_on_page.ensures n k
    ∙ ap (λ (fs : List Fix). cond (c.args.object == n) (with_fix c.args.page c.args.fix k fs) fs) (c.in_ok-add_rows.ensures.same n k)
