use Rattle.std.proofs.Common.{◌≡◌, map, take, get_or, false, None}
use Rattle.std.specs.List.{find, enumerate_from}
use Rattle.seg_merge.proofs.splits.check_marks.Given as goal

abbrev pub invariant-loop-place : goal.invariant-loop-place
invariant-loop-place l = find (λ q. get_or l.split q.0 false) (enumerate_from 0 (map (λ n. n.now) (take l.place l.names))) ≡ None
