use Rattle.image_pages.proofs.Loads.{loads_alone}
use Rattle.image_pages.proofs.laws.linked_modules_load_alone.Goals as goal

pub returns : goal.returns
returns c = loads_alone
