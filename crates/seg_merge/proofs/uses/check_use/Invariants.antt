use Rattle.std.proofs.Common.{map}
use Rattle.seg_merge.proofs.UseWalk.{Walked}
use Rattle.seg_merge.proofs.uses.check_use.Given as goal

abbrev pub invariant-loop-place : goal.invariant-loop-place
invariant-loop-place l = Walked l.segments (map (λ v. v.items) l.groups) l.count l.place l.uses.segments.items l.uses.groups.items
