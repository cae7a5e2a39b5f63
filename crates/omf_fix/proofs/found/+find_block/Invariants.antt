use Rattle.std.proofs.Common.{◌≡◌, ◌-◌, ltb}
use Rattle.omf_fix.specs.Found.{IsInContents, found_in}
use Rattle.omf_fix.proofs.BlockFound.{items_found}
use Rattle.omf_fix.proofs.found.+find_block.Given as goal

abbrev pub decreases-find_block : goal.decreases-find_block
decreases-find_block l = l.left

abbrev pub invariant-inner : goal.invariant-inner
invariant-inner l =
    (items_found l.sought.number (l.left - 1) l.sought.wide (ltb 0 l.times) l.more (found_in l.found) l.fields ≡ items_found l.sought.number (l.left - 1) l.sought.wide (ltb 0 l.times) l.count (found_in l.initial.found) l.initial.fields)
    × IsInContents l.fields

abbrev pub decreases-inner : goal.decreases-inner
decreases-inner l = l.more
