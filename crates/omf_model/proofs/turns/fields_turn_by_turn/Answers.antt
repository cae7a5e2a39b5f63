use Rattle.omf_model.proofs.TurnLaws.{fixupp-next, fixupp-refused, fixupp-done, fields-more}
use Rattle.omf_model.proofs.turns.fields_turn_by_turn.Goals as goal

pub returns-clause-next : goal.returns-clause-next
returns-clause-next c = fixupp-next

pub returns-clause-refused : goal.returns-clause-refused
returns-clause-refused c = fixupp-refused

pub returns-clause-done : goal.returns-clause-done
returns-clause-done c = fixupp-done

pub returns-clause-more : goal.returns-clause-more
returns-clause-more c = fields-more
