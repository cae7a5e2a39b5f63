use Rattle.omf_fields.proofs.ItemLaws.{list-none, list-next, list-enough}
use Rattle.omf_fields.proofs.laws.list_of_items.Goals as goal

pub returns-clause-none : goal.returns-clause-none
returns-clause-none g c = list-none

pub returns-clause-first : goal.returns-clause-first
returns-clause-first g c = λ one c takes bytes some. list-next one takes c bytes some

pub returns-clause-more : goal.returns-clause-more
returns-clause-more g c = λ one most c takes bytes long. list-enough one takes most c bytes long
