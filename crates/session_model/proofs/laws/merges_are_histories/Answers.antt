use Rattle.session_model.proofs.MergeStates.{merge_has_history, states_are_the_historys}
use Rattle.session_model.proofs.UsedPages.{uses_by_pages}
use Rattle.session_model.proofs.laws.merges_are_histories.Goals as goal

pub returns : goal.returns
returns c = record { entries = merge_has_history; states = states_are_the_historys; uses = uses_by_pages }
