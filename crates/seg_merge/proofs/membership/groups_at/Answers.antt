use Rattle.seg_merge.proofs.UseWalk.{own-is}
use Rattle.seg_merge.proofs.membership.groups_at.Goals as goal

pub returns : goal.returns
returns c = own-is (λ v. v.items) c.args.groups.now c.args.segment c.index-groups-segment.result c.as_slice.result.now c.requires c.index-groups-segment.is c.as_slice.ensures.value
