use Rattle.process_pages.proofs.Positions.{none_right}
use Rattle.process_pages.proofs.residence_finder.ResidenceFinder.none.Goals as goal

pub returns : goal.returns
returns c = λ m. none_right 64 m m
