use Rattle.std.proofs.Common.{◌≡◌, length}
use Rattle.omf_fix.specs.Found.{IsInContents, blocks_found, found_in}
use Rattle.omf_fix.proofs.found.find_blocks.Given as goal

abbrev pub invariant-all : goal.invariant-all
invariant-all l = (blocks_found l.sought.number l.sought.wide (found_in l.found) l.fields ≡ blocks_found l.sought.number l.sought.wide (found_in l.initial.found) l.initial.fields) × IsInContents l.fields

abbrev pub decreases-all : goal.decreases-all
decreases-all l = length l.fields.left
