use Rattle.check_core.proofs.NextCommands.{nothing_done, next_is_by_count, one_more_done, all_are_done}
use Rattle.check_core.proofs.laws.commands_are_counted.Goals as goal

pub returns : goal.returns
returns c = record { nothing = nothing_done; next = next_is_by_count; more = one_more_done; all = all_are_done }
