use Rattle.link_place.proofs.Meanings.{has-meanings}
use Rattle.link_place.proofs.laws.symbols_have_meanings.Goals as goal

pub returns : goal.returns
returns c = λ l s are. has-meanings l s are.meanings
