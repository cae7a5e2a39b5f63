use Rattle.layer_laws.proofs.LoadedPages.{plain_loaded}
use Rattle.layer_laws.proofs.laws.plain_bytes_are_loaded.Goals as goal

pub returns : goal.returns
returns c = plain_loaded
