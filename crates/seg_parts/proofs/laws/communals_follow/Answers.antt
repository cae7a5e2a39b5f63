use Rattle.seg_parts.proofs.GroupMembers.{communals_of_members}
use Rattle.seg_parts.proofs.laws.communals_follow.Goals as goal

pub returns : goal.returns
returns c = communals_of_members
