use Rattle.std.proofs.Common.{◌∙◌, List, ℕ, ap}
use Rattle.lx_types.specs.declared.bases.Bases.{Bases}
use Rattle.lx_types.specs.declared.object.PageId.{PageId}
use Rattle.lx_types.specs.declared.parts.Parts.{Parts}
use Rattle.lx_model.specs.ModuleBytes.{fixed_page}
use Rattle.frame_trial.proofs.shared.Shared.map.Goals as goal

pub publish-requires-clause-bytes : goal.publish-requires-clause-bytes
publish-requires-clause-bytes g c =
    let r = c.args.self.now.residence in
    c.fix_page-page.ensures.bytes
    ∙ ap (λ (lib : List Parts). fixed_page lib c.module-in-Some-right.result c.bases.result.now c.in-Some-right.right.page) c.library-library.ensures
    ∙ ap (λ (m : ℕ). fixed_page r.library m c.bases.result.now c.in-Some-right.right.page) c.module-in-Some-right.ensures.number
    ∙ ap (λ (b : Bases). fixed_page r.library r.«module» b c.in-Some-right.right.page) c.bases.ensures
    ∙ ap (λ (p : PageId). fixed_page r.library r.«module» r.bases p) c.in-Some-right.ensures.1
