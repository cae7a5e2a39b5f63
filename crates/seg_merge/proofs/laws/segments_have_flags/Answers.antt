use Rattle.seg_merge.proofs.AgreeingParts.{flags-agree}
use Rattle.seg_merge.proofs.laws.segments_have_flags.Goals as goal

pub returns : goal.returns
returns c = flags-agree
