use Rattle.lx_write.proofs.LinkImages.{link_images}
use Rattle.lx_write.proofs.laws.link_images_are_written.Goals as goal

pub returns : goal.returns
returns c = link_images
