use Rattle.process_view.proofs.Claims as pages
use Rattle.process_view.proofs.laws.pages_stand.Goals as goal

pub returns : goal.returns
returns c = pages.pages_stand
