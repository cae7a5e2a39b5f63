use Rattle.omf_model.proofs.PartsLaws.{parts_of-snoc, add-lists}
use Rattle.omf_model.proofs.laws.one_more_record.Goals as goal

pub returns-clause-records : goal.returns-clause-records
returns-clause-records c = parts_of-snoc

pub returns-clause-lists : goal.returns-clause-lists
returns-clause-lists c = add-lists
