use Rattle.load_model.proofs.HeldWrites.{own_writes_are_held}
use Rattle.load_model.proofs.laws.own_writes_are_held.Goals as goal

pub returns : goal.returns
returns c = own_writes_are_held
