use Rattle.link_model.proofs.ExportsStay.{exports_stay}
use Rattle.link_model.proofs.laws.no_export_is_dropped.Goals as goal

pub returns : goal.returns
returns c = exports_stay
