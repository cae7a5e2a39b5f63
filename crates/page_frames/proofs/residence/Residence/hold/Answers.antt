use Rattle.std.proofs.Common.{◌∙◌, ap}
use Rattle.lx_model.specs.ModuleBytes.{fixed_page}
use Rattle.page_frames.specs.Residences.{ResidenceFor, FramesFor}
use Rattle.page_frames.proofs.residence.Residence.hold.Goals as goal

pub returns : goal.returns
returns g c =
    c.hold.ensures ∙ ap (λ (f : FramesFor). fixed_page f.library f.«module» f.bases c.args.p) c.deref.ensures
    ∙ ap (λ (r : ResidenceFor). fixed_page r.library r.«module» r.bases c.args.p) c.self.view_is
