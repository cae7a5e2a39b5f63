use Rattle.std.proofs.Common.{◌∙◌, ◌++◌, ap, sym, take}
use Rattle.link_types.specs.Links.{link_with}
use Rattle.link_types.proofs.Lists.{modules-push}
use Rattle.seg_parts.specs.Members.{listed_in, memberships}
use Rattle.seg_parts.proofs.members.members_of.Goals as goal

pub loop-place-preserved : goal.loop-place-preserved
loop-place-preserved c =
    let before = memberships (link_with c.args.input.now (take c.loop-place.place c.args.modules.now)) in
    c.in_ok-add_groups.ensures
    ∙ ap (λ ds. ds ++ listed_in c.in_ok-count.field-0 c.index-modules-place.result.now) c.loop-place.invariant
    ∙ ap (λ n. before ++ listed_in n c.index-modules-place.result.now) c.in_ok-count.ensures
    ∙ sym (modules-push listed_in c.args.input.now c.args.modules.now c.loop-place.place c.index-modules-place.result c.loop-place-test.true c.index-modules-place.is)
