use Rattle.omf_model.proofs.TurnLaws.{rest-next, rest-last, rest-refused, rest-more}
use Rattle.omf_model.proofs.turns.records_turn_by_turn.Goals as goal

pub returns-clause-next : goal.returns-clause-next
returns-clause-next c = rest-next

pub returns-clause-last : goal.returns-clause-last
returns-clause-last c = rest-last

pub returns-clause-refused : goal.returns-clause-refused
returns-clause-refused c = rest-refused

pub returns-clause-more : goal.returns-clause-more
returns-clause-more c = rest-more
