use Rattle.omf_model.proofs.TooManyLaws.{too-many}
use Rattle.omf_model.proofs.examples.one_fixup_too_many.Goals as goal

pub returns : goal.returns
returns c = too-many
