use Rattle.gen_laws.proofs.ObjectFiles.{objects_read}
use Rattle.gen_laws.proofs.laws.objects_have_files.Goals as goal

pub returns : goal.returns
returns c = objects_read c.writable_modules_have_files.ensures
