use Rattle.lx_model.proofs.Orders.{order_is_closed, order_ends, order_has_each_once, order_is_in_library}
use Rattle.lx_model.proofs.Visits.{order_is_reached, reached_is_ordered}
use Rattle.lx_model.proofs.laws.order_is_reach.Goals as goal

pub returns-clause-order : goal.returns-clause-order
returns-clause-order c = order_is_reached

pub returns-clause-reach : goal.returns-clause-reach
returns-clause-reach c = reached_is_ordered

pub returns-clause-once : goal.returns-clause-once
returns-clause-once c = order_has_each_once

pub returns-clause-within : goal.returns-clause-within
returns-clause-within c = order_is_in_library

pub returns-clause-closed : goal.returns-clause-closed
returns-clause-closed c = order_is_closed

pub returns-clause-last : goal.returns-clause-last
returns-clause-last c = order_ends
