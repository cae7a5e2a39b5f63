use Rattle.std.proofs.Common.{◌∙◌, ap}
use Rattle.lx_model.specs.ModuleBytes.{fixed_page}
use Rattle.module_pages.specs.Placed.{PlacedModule}
use Rattle.module_pages.proofs.pages.ModulePages.page.Goals as goal

pub returns-clause-bytes : goal.returns-clause-bytes
returns-clause-bytes g c = c.fix_owned.ensures.bytes ∙ ap (λ (m : PlacedModule). fixed_page m.library m.«module» m.bases c.args.p) c.self.view_is
