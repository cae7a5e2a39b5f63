use Rattle.std.proofs.Common.{◌∙◌, ◌&&◌}
use Rattle.link_model.specs.Groups.{is_far_bss}
use Rattle.seg_parts.specs.Parts.{shown}
use Rattle.seg_parts.specs.Communals.{is_in}
use Rattle.seg_parts.proofs.Lists.{any_mapped}
use Rattle.seg_parts.proofs.communals.far_is_grouped.Goals as goal

pub returns : goal.returns
returns c = c.any_far.ensures ∙ any_mapped (λ p. is_far_bss p && is_in c.args.dgroup.now.keys p) shown c.args.contributions.now
