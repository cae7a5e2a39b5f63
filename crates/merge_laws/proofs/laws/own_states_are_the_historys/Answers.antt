use Rattle.merge_laws.proofs.OwnStates.{own_items_have_history, own_state_is_the_historys, following_replies, touch_follows_faults}
use Rattle.merge_laws.proofs.laws.own_states_are_the_historys.Goals as goal

pub returns : goal.returns
returns c = record { items = own_items_have_history; state = own_state_is_the_historys; replies = following_replies; faults = touch_follows_faults }
