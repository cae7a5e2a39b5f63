use Rattle.std.proofs.Common.{◌≡◌, map, take}
use Rattle.link_model.specs.Parts as rules
use Rattle.link_types.specs.Links.{link_with}
use Rattle.seg_parts.specs.Parts.{shown}
use Rattle.seg_parts.proofs.parts.contributions_of.Given as goal

abbrev pub invariant-loop-place : goal.invariant-loop-place
invariant-loop-place l =
    map shown l.found.items ≡ rules.contributions (link_with l.input (take l.place l.modules))
