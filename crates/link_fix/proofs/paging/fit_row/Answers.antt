use Rattle.std.proofs.Common.{ap, ◌∙◌, List}
use Rattle.std.specs.Global.{Vec}
use Rattle.lx_types.specs.declared.fix.Fix.{Fix}
use Rattle.link_fix.specs.Paging.{page_in}
use Rattle.link_fix.proofs.PageLists.{page-take}
use Rattle.link_fix.proofs.paging.fit_row.Goals as goal

pub returns-clause-same : goal.returns-clause-same
returns-clause-same c = λ k h. ap (λ (ps : List (Vec Fix)). page_in ps k) c.truncate.ensures.items ∙ page-take _ c.args.count k h ∙ c.in_ok-add_pages.ensures.same k
