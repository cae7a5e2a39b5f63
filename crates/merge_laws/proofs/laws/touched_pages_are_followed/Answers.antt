use Rattle.merge_laws.proofs.OwnStates.{nothing_touched, touched_after_entry, touched_after_line, touched_decides}
use Rattle.merge_laws.proofs.laws.touched_pages_are_followed.Goals as goal

pub returns : goal.returns
returns c = record { nothing = nothing_touched; entries = touched_after_entry; lines = touched_after_line; decide = touched_decides }
