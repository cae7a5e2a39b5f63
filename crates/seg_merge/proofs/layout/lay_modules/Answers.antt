use Rattle.std.proofs.Common.{◌≡◌, ◌∙◌, Some, None}
use Rattle.link_model.specs.LayoutRefusals.{too_large, lay_refusal}
use Rattle.link_model.specs.Link.{Link}
use Rattle.lx_types.proofs.Failing.{handed_on, answered}
use Rattle.link_types.specs.Links.{link_with}
use Rattle.seg_merge.specs.declared.grouped.Grouped.{Grouped}
use Rattle.link_types.specs.declared.layout.Layout.{Layout}
use Rattle.seg_merge.specs.Grouped.{AreGrouped}
use Rattle.link_types.specs.Layout.{IsLaidOut}
use Rattle.seg_merge.proofs.Refusals.{earlier, only-large, refused-before}
use Rattle.seg_merge.proofs.layout.lay_modules.Goals as goal

pub returns-in-Err : goal.returns-in-Err
returns-in-Err c =
    let l : Link = link_with c.args.input.now c.args.modules.now in
    handed_on c.in-Err.fail
    (λ (g : Grouped). (earlier l ≡ None) × AreGrouped l g)
    (λ (layout : Layout). (lay_refusal l ≡ None) × IsLaidOut l layout)
    (λ refusal. earlier l ≡ Some refusal)
    (λ refusal. lay_refusal l ≡ Some refusal)
    (λ refusal h. refused-before l refusal h)
    c.in-Err.ensures

pub returns-in-Ok : goal.returns-in-Ok
returns-in-Ok c =
    let l : Link = link_with c.args.input.now c.args.modules.now in
    let same : lay_refusal l ≡ too_large l = only-large l c.in-Ok.ensures.0 in
    answered c.lay_grouped.result
    (λ (layout : Layout). (too_large l ≡ None) × IsLaidOut l layout)
    (λ (layout : Layout). (lay_refusal l ≡ None) × IsLaidOut l layout)
    (λ refusal. too_large l ≡ Some refusal)
    (λ refusal. lay_refusal l ≡ Some refusal)
    (λ layout v. (same ∙ v.0, v.1))
    (λ refusal h. same ∙ h)
    c.lay_grouped.ensures
