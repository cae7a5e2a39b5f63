use Rattle.link_model.proofs.OneSegmentLaw.{one_segment_law}
use Rattle.link_model.proofs.laws.one_segment_links_plainly.Goals as goal

pub returns : goal.returns
returns c = one_segment_law
