use Rattle.std.proofs.Common.{refl}
use Rattle.omf_frame.proofs.Records.{whole_one}
use Rattle.omf_frame.proofs.laws.one_record.Goals as goal

pub returns : goal.returns
returns c = λ bytes t u b d x y r s one other. whole_one refl one other
