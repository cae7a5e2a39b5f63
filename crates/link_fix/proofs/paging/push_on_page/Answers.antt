use Rattle.std.proofs.Common.{◌∙◌, ◌∷◌, ◌==◌, ap, cond, List}
use Rattle.lx_types.specs.declared.fix.Fix.{Fix}
use Rattle.link_fix.proofs.PageRows.{push-page}
use Rattle.link_fix.proofs.paging.push_on_page.Goals as goal

pub returns : goal.returns
returns c = λ k.
    push-page c.add_pages.new.row.items c.args.page c.index_mut.result.now c.push.new.self c.args.fix c.in_ok-add_pages.ensures.len c.index_mut.ensures.value c.in_ok-push.ensures.items k
    ∙ ap (λ (fs : List Fix). cond (c.args.page == k) (c.args.fix ∷ fs) fs) (c.in_ok-add_pages.ensures.same k)
