use Rattle.std.proofs.Common.{◌∙◌, ap, Option}
use Rattle.std.specs.Option.{option_map}
use Rattle.seg_merge.specs.declared.ordered.OrderedSegment.{OrderedSegment}
use Rattle.seg_merge.specs.Ordered.{Ordered, ordered_shown}
use Rattle.seg_merge.proofs.StackSearch.{stack-found}
use Rattle.seg_merge.proofs.units.stack_number.Goals as goal

pub returns-in-None : goal.returns-in-None
returns-in-None c =
    ap (λ (o : Option OrderedSegment). option_map (λ (t : Ordered). t.number) (option_map ordered_shown o)) c.in-None.ensures
    ∙ ap (option_map (λ (t : Ordered). t.number)) (stack-found c.args.ordered.now)

pub returns-in-Some : goal.returns-in-Some
returns-in-Some c =
    ap (λ (o : Option OrderedSegment). option_map (λ (t : Ordered). t.number) (option_map ordered_shown o)) c.in-Some.ensures
    ∙ ap (option_map (λ (t : Ordered). t.number)) (stack-found c.args.ordered.now)
