use Rattle.lx_model.proofs.Meaning.{sound}
use Rattle.lx_model.proofs.laws.parts_are_sound.Goals as goal

pub returns : goal.returns
returns c = sound
