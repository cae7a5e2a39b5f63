use Rattle.seg_parts.proofs.GroupMembers.{groups_of_members}
use Rattle.seg_parts.proofs.laws.groups_have_members.Goals as goal

pub returns : goal.returns
returns c = groups_of_members
