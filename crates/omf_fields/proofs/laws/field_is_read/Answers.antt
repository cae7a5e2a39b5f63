use Rattle.omf_fields.proofs.FieldLaws.{byte_sound, byte_complete, number_sound, number_complete, name_sound, name_complete, index_sound, index_complete, below_sound, below_complete, or_zero_sound, or_zero_complete}
use Rattle.omf_fields.proofs.LengthLaws.{length_sound, length_complete}
use Rattle.omf_fields.proofs.laws.field_is_read.Goals as goal

pub returns-clause-bytes : goal.returns-clause-bytes
returns-clause-bytes c = record { found = byte_sound; only = byte_complete }

pub returns-clause-numbers : goal.returns-clause-numbers
returns-clause-numbers c = λ n. record { found = number_sound n; only = number_complete n }

pub returns-clause-names : goal.returns-clause-names
returns-clause-names c = record { found = name_sound; only = name_complete }

pub returns-clause-indices : goal.returns-clause-indices
returns-clause-indices c = record { found = index_sound; only = index_complete }

pub returns-clause-below : goal.returns-clause-below
returns-clause-below c = λ have. record { found = below_sound have; only = below_complete have }

pub returns-clause-or_zero : goal.returns-clause-or_zero
returns-clause-or_zero c = λ have. record { found = or_zero_sound have; only = or_zero_complete have }

pub returns-clause-lengths : goal.returns-clause-lengths
returns-clause-lengths c = record { found = length_sound; only = length_complete }
