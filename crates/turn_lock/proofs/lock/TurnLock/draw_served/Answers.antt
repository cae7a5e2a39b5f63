use Rattle.std.proofs.Common.{rules}
use Rattle.turn_lock.proofs.Keeps.{draws_if}
use Rattle.turn_lock.proofs.lock.TurnLock.draw_served.Goals as goal

pub compare_exchange-found-requires : goal.compare_exchange-found-requires
compare_exchange-found-requires g c = (search rules, search rules, draws_if _ _ _ _ _ _ _ _ c.requires.idle.0 c.requires.idle.1 c.requires.few (search rules))
