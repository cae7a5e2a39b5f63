use Rattle.std.proofs.Common.{◌≡◌, map, reverse}
use Rattle.link_fix.proofs.paging.lists_of.Given as goal

abbrev pub invariant-loop-page : goal.invariant-loop-page
invariant-loop-page l = l.lists ≡ map (λ page. reverse page.items) l.yielded
