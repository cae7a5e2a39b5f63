use Rattle.link_model.proofs.RecordsStay.{records_stay}
use Rattle.link_model.proofs.laws.no_record_is_dropped.Goals as goal

pub returns : goal.returns
returns c = records_stay
