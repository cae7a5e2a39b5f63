use Rattle.omf_fields.proofs.FaultLaws.{byte-short, number-short, name-short, index-short, below-fault, or_zero-fault}
use Rattle.omf_fields.proofs.laws.field_is_refused.Goals as goal

pub returns-clause-bytes : goal.returns-clause-bytes
returns-clause-bytes c = byte-short

pub returns-clause-numbers : goal.returns-clause-numbers
returns-clause-numbers c = number-short

pub returns-clause-names : goal.returns-clause-names
returns-clause-names c = name-short

pub returns-clause-indices : goal.returns-clause-indices
returns-clause-indices c = index-short

pub returns-clause-below : goal.returns-clause-below
returns-clause-below c = below-fault

pub returns-clause-or_zero : goal.returns-clause-or_zero
returns-clause-or_zero c = or_zero-fault
