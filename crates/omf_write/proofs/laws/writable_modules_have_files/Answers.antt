use Rattle.omf_write.proofs.ObjectRead.{object_is_read, module_is_file}
use Rattle.omf_write.proofs.laws.writable_modules_have_files.Goals as goal

pub returns : goal.returns
returns c m can fits = module_is_file m (object_is_read m can fits)
