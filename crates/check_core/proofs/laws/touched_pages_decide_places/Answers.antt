use Rattle.check_core.proofs.PlaceStates.{touched_by_items, pages_decide}
use Rattle.check_core.proofs.laws.touched_pages_decide_places.Goals as goal

pub returns : goal.returns
returns c = record { items = touched_by_items; decide = pages_decide }
