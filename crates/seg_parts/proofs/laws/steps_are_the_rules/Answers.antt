use Rattle.seg_parts.proofs.StepsAreRules.{steps_of_links}
use Rattle.seg_parts.proofs.laws.steps_are_the_rules.Goals as goal

pub returns : goal.returns
returns c = steps_of_links
