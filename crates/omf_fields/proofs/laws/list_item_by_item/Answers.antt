use Rattle.omf_fields.proofs.ItemLaws.{onto-item, onto-refused, onto-done}
use Rattle.omf_fields.proofs.laws.list_item_by_item.Goals as goal

pub returns-clause-item : goal.returns-clause-item
returns-clause-item g c = λ one items c x d takes bytes some e. onto-item one takes items c x d bytes some e

pub returns-clause-refused : goal.returns-clause-refused
returns-clause-refused g c = λ one items c refusal takes bytes some e. onto-refused one takes items c refusal bytes some e

pub returns-clause-done : goal.returns-clause-done
returns-clause-done g c = onto-done
