use Rattle.std.proofs.Common.{rules, ◌∙◌, ap}
use Rattle.lx_types.specs.declared.bases.Bases.{Bases}
use Rattle.lx_model.specs.ModuleBytes.{fixed_page}
use Rattle.page_fix.proofs.fixing.fix_any.Goals as goal

pub returns-clause-bytes : goal.returns-clause-bytes
returns-clause-bytes g c = c.fix_into.ensures.bytes ∙ ap (λ (b : Bases). fixed_page c.args.lib.now c.args.m b c.args.p) (search rules)
