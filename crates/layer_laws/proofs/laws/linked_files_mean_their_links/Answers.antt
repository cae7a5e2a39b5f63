use Rattle.layer_laws.proofs.LinkedFiles.{files_mean}
use Rattle.layer_laws.proofs.laws.linked_files_mean_their_links.Goals as goal

pub returns : goal.returns
returns c = files_mean
