use Rattle.load_model.proofs.Touched.{answered_by_pages, entries_move_touched}
use Rattle.load_model.proofs.laws.touched_pages_decide.Goals as goal

pub returns : goal.returns
returns c = record { answers = answered_by_pages; entries = entries_move_touched }
