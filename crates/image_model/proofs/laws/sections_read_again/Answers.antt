use Rattle.image_model.proofs.HeaderRead.{fields_read}
use Rattle.image_model.proofs.SectionsRead.{sections_read}
use Rattle.image_model.proofs.laws.sections_read_again.Goals as goal

pub returns-clause-fields : goal.returns-clause-fields
returns-clause-fields c = fields_read

pub returns-clause-sections : goal.returns-clause-sections
returns-clause-sections c = sections_read
