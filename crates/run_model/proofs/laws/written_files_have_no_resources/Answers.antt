use Rattle.run_model.proofs.Resources.{no_resources}
use Rattle.run_model.proofs.laws.written_files_have_no_resources.Goals as goal

pub returns : goal.returns
returns c = no_resources c.sections_read_again.ensures.fields
