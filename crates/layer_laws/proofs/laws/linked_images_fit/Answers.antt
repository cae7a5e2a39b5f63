use Rattle.layer_laws.proofs.ImagesFit.{images_fit}
use Rattle.layer_laws.proofs.laws.linked_images_fit.Goals as goal

pub returns : goal.returns
returns c = images_fit
