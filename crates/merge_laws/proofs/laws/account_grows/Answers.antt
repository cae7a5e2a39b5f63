use Rattle.merge_laws.proofs.Steps.{account_begins, others_entry_stays, own_entry_adds, own_line_adds}
use Rattle.merge_laws.proofs.laws.account_grows.Goals as goal

pub returns : goal.returns
returns c = record { begins = account_begins; residences = others_entry_stays; entry = own_entry_adds; line = own_line_adds }
