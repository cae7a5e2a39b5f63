use Rattle.load_model.proofs.FewSerials.{orders_are_few, serials_are_few}
use Rattle.load_model.proofs.laws.serials_are_few.Goals as goal

pub returns : goal.returns
returns c = record {
  orders = orders_are_few c.order_is_reach.ensures.once c.order_is_reach.ensures.within;
  serials = serials_are_few c.order_is_reach.ensures.once c.order_is_reach.ensures.within;
}
