use Rattle.answer_laws.proofs.ShownFiles.{fault_once}
use Rattle.answer_laws.proofs.laws.shown_files_have_one_fault.Goals as goal

pub returns : goal.returns
returns c = fault_once
