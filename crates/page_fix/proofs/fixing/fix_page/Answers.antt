use Rattle.std.proofs.Common.{rules, ◌∙◌, ap}
use Rattle.lx_types.specs.declared.bases.Bases.{Bases}
use Rattle.lx_types.specs.declared.object.PageId.{PageId}
use Rattle.lx_model.specs.ModuleBytes.{fixed_page}
use Rattle.page_fix.proofs.fixing.fix_page.Goals as goal

pub returns-clause-bytes : goal.returns-clause-bytes
returns-clause-bytes g c =
    c.of-2.ensures ∙ c.fix_into.ensures.bytes
    ∙ ap (λ (b : Bases). fixed_page c.args.lib.now c.args.m b c.spend-serial.result.1) (search rules)
    ∙ ap (λ (p : PageId). fixed_page c.args.lib.now c.args.m c.args.bases.now p) c.spend-serial.ensures.1
