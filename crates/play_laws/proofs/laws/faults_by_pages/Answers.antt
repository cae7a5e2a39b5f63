use Rattle.play_laws.proofs.Attached.{faults_by_pages}
use Rattle.play_laws.proofs.laws.faults_by_pages.Goals as goal

pub returns : goal.returns
returns c = faults_by_pages
