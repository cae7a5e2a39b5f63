use Rattle.image_model.proofs.LinksRead.{links_read}
use Rattle.image_model.proofs.laws.links_read_again.Goals as goal

pub returns : goal.returns
returns c = links_read
