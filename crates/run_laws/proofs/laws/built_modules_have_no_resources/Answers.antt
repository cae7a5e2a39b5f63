use Rattle.run_laws.proofs.BuiltResources.{no_resources}
use Rattle.run_laws.proofs.laws.built_modules_have_no_resources.Goals as goal

pub returns : goal.returns
returns c = no_resources c.linked_images_fit.ensures c.written_files_have_no_resources.ensures
