use Rattle.std.proofs.Common.{◌∙◌, sym, ap}
use Rattle.lx_model.specs.ModuleBytes.{fixed_page}
use Rattle.page_frames.specs.Residences.{ResidenceFor, FramesFor}
use Rattle.page_frames.proofs.residence.Residence.publish.Goals as goal

pub publish-requires-clause-bytes : goal.publish-requires-clause-bytes
publish-requires-clause-bytes g c =
    c.requires.bytes ∙ ap (λ (r : ResidenceFor). fixed_page r.library r.«module» r.bases c.args.p) (sym c.self.view_is)
    ∙ ap (λ (f : FramesFor). fixed_page f.library f.«module» f.bases c.args.p) (sym c.deref.ensures)
