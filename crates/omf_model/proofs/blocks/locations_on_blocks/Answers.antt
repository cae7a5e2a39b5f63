use Rattle.omf_model.proofs.CopiesLaws.{copies-meet, meeting-share}
use Rattle.omf_model.proofs.blocks.locations_on_blocks.Goals as goal

pub returns-clause-meet : goal.returns-clause-meet
returns-clause-meet c = copies-meet

pub returns-clause-share : goal.returns-clause-share
returns-clause-share c = meeting-share
