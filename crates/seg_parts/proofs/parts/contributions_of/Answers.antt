use Rattle.std.proofs.Common.{◌∙◌, ◌++◌, ap, sym, map, filter, not, take}
use Rattle.std.specs.List.{enumerate_from}
use Rattle.link_model.specs.Parts as rules
use Rattle.link_types.specs.Links.{link_with}
use Rattle.seg_parts.specs.Parts.{shown}
use Rattle.link_types.proofs.Lists.{modules-push}
use Rattle.seg_parts.proofs.parts.contributions_of.Goals as goal

pub loop-place-preserved : goal.loop-place-preserved
loop-place-preserved c =
    let before = rules.contributions (link_with c.args.input.now (take c.loop-place.place c.args.modules.now)) in
    c.in_ok-add_contributions.ensures
    ∙ ap (λ segs. map shown c.loop-place.found.items ++ map (λ q. rules.of_seg c.in_ok-count.field-0 q.0 q.1) (filter (λ q. not q.1.debug) (enumerate_from 1 segs))) c.as_slice.ensures
    ∙ ap (λ ds. ds ++ rules.contributions_in c.in_ok-count.field-0 c.index-modules-place.result.now) c.loop-place.invariant
    ∙ ap (λ n. before ++ rules.contributions_in n c.index-modules-place.result.now) c.in_ok-count.ensures
    ∙ sym (modules-push rules.contributions_in c.args.input.now c.args.modules.now c.loop-place.place c.index-modules-place.result c.loop-place-test.true c.index-modules-place.is)
