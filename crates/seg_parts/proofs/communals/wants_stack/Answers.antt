use Rattle.std.proofs.Common.{◌∙◌, ap, not}
use Rattle.link_model.specs.Parts as rules
use Rattle.seg_parts.specs.Parts.{shown}
use Rattle.seg_parts.specs.Communals.{wants_stack}
use Rattle.std.proofs.Common.{map, sym}
use Rattle.seg_parts.proofs.Lists.{any_mapped}
use Rattle.seg_parts.proofs.communals.wants_stack.Goals as goal

pub returns-in-Program : goal.returns-in-Program
returns-in-Program c =
    ap not (c.any_stack.ensures ∙ any_mapped rules.is_stack shown c.args.parts.now)
    ∙ ap (λ k. wants_stack k (map shown c.args.parts.now)) (sym c.in-Program.is)
