use Rattle.omf_model.proofs.TurnLaws.{modules-next, modules-refused, modules-done, modules-more}
use Rattle.omf_model.proofs.turns.modules_turn_by_turn.Goals as goal

pub returns-clause-next : goal.returns-clause-next
returns-clause-next c = modules-next

pub returns-clause-refused : goal.returns-clause-refused
returns-clause-refused c = modules-refused

pub returns-clause-done : goal.returns-clause-done
returns-clause-done c = modules-done

pub returns-clause-more : goal.returns-clause-more
returns-clause-more c = modules-more
