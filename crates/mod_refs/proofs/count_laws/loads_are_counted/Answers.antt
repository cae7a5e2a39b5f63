use Rattle.mod_refs.proofs.Bounded.{counts_have_room, held_is_counted}
use Rattle.mod_refs.proofs.count_laws.loads_are_counted.Goals as goal

pub returns : goal.returns
returns c = record { counted = held_is_counted; room = counts_have_room }
