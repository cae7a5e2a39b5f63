use Rattle.run_model.proofs.Standing.{reached_stand}
use Rattle.run_model.proofs.laws.reached_modules_stand.Goals as goal

pub returns : goal.returns
returns c = reached_stand c.order_is_reach.ensures.last c.reached_is_fit.ensures.reached c.residents_are_reached.ensures.resident c.residences_stand.ensures.fit
