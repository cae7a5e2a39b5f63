use Rattle.omf_model.proofs.CopyLaws.{length-expanded}
use Rattle.omf_model.proofs.CopiesLaws.{length-capped, nothing-expands, depth-read}
use Rattle.omf_model.proofs.blocks.blocks_are_measured.Goals as goal

pub returns-clause-length : goal.returns-clause-length
returns-clause-length c = length-expanded

pub returns-clause-capped : goal.returns-clause-capped
returns-clause-capped c = length-capped

pub returns-clause-nothing : goal.returns-clause-nothing
returns-clause-nothing c = nothing-expands

pub returns-clause-depth : goal.returns-clause-depth
returns-clause-depth c = depth-read
