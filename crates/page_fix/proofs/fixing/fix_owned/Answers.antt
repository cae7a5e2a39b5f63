use Rattle.std.proofs.Common.{◌∙◌, List, ap}
use Rattle.lx_types.specs.declared.parts.Parts.{Parts}
use Rattle.lx_model.specs.ModuleBytes.{fixed_page}
use Rattle.page_fix.proofs.fixing.fix_owned.Goals as goal

pub returns-clause-bytes : goal.returns-clause-bytes
returns-clause-bytes g c = c.fix_any.ensures.bytes ∙ ap (λ (lib : List Parts). fixed_page lib c.args.m c.args.bases.now c.args.p) c.library.ensures
