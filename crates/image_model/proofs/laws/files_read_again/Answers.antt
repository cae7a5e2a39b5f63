use Rattle.image_model.proofs.FilesRead.{files_read}
use Rattle.image_model.proofs.laws.files_read_again.Goals as goal

pub returns : goal.returns
returns c = files_read
