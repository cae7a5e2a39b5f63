use Rattle.std.proofs.Common.{◌≡◌, ◌∙◌, ap, sym, map, refl, Some, None, [], ◌∷◌}
use Rattle.link_model.specs.LayoutRefusals.{absolute, use_mixed, group_split}
use Rattle.link_model.specs.Link.{Link}
use Rattle.link_model.specs.Words.{first_of}
use Rattle.seg_parts.specs.Members.{member_shown}
use Rattle.seg_parts.specs.Parts.{shown}
use Rattle.seg_parts.specs.Refusals.{absolute_in}
use Rattle.lx_types.proofs.Failing.{handed_on, answered}
use Rattle.link_types.specs.Links.{link_with}
use Rattle.seg_merge.specs.declared.grouped.Grouped.{Grouped}
use Rattle.seg_merge.specs.Grouped.{AreGrouped}
use Rattle.seg_merge.specs.Refused.{AreOf}
use Rattle.seg_merge.proofs.Refusals.{absolute-is, first-is, later-is, none-is}
use Rattle.seg_merge.proofs.grouped.grouped_of.Goals as goal

pub returns-in-Err : goal.returns-in-Err
returns-in-Err c =
    let l : Link = link_with c.args.input.now c.args.modules.now in
    let same : absolute l ≡ absolute_in (map shown c.as_slice.result.now) =
    sym (absolute-is l) ∙ ap absolute_in (sym (ap (map shown) c.as_slice.ensures.value ∙ c.in_ok-parts.ensures)) in
    handed_on c.in-Err.fail
    (λ (u : Unit {0}). absolute_in (map shown c.as_slice.result.now) ≡ None)
    (λ (g : Grouped). (first_of (absolute l ∷ use_mixed l ∷ group_split l ∷ []) ≡ None) × AreGrouped l g)
    (λ refusal. absolute_in (map shown c.as_slice.result.now) ≡ Some refusal)
    (λ refusal. first_of (absolute l ∷ use_mixed l ∷ group_split l ∷ []) ≡ Some refusal)
    (λ refusal h. first-is (absolute l) (use_mixed l) (group_split l) refusal (same ∙ h))
    c.in-Err.ensures

pub group_parts-requires : goal.group_parts-requires
group_parts-requires c =
    let l : Link = link_with c.args.input.now c.args.modules.now in
    let a : AreOf l c.args.input.now.def (map shown c.in_ok-parts.parts.items) c.in_ok-groups-in-Ok.groups.names (map member_shown c.in_ok-groups-in-Ok.groups.members.items) = record {
      def_is = refl;
      parts_are = sym c.in_ok-parts.ensures;
      names_are = sym c.in_ok-groups-in-Ok.ensures.names;
      members_are = sym c.in_ok-groups-in-Ok.ensures.members;
    } in
    (l, a)

pub returns : goal.returns
returns c =
    let l : Link = link_with c.args.input.now c.args.modules.now in
    let same : absolute l ≡ absolute_in (map shown c.as_slice.result.now) =
    sym (absolute-is l) ∙ ap absolute_in (sym (ap (map shown) c.as_slice.ensures.value ∙ c.in_ok-parts.ensures)) in
    let a : AreOf l c.args.input.now.def (map shown c.in_ok-parts.parts.items) c.in_ok-groups-in-Ok.groups.names (map member_shown c.in_ok-groups-in-Ok.groups.members.items) = record {
      def_is = refl;
      parts_are = sym c.in_ok-parts.ensures;
      names_are = sym c.in_ok-groups-in-Ok.ensures.names;
      members_are = sym c.in_ok-groups-in-Ok.ensures.members;
    } in
    answered c.group_parts.result
    (λ (g : Grouped). (use_mixed l ≡ None) × (group_split l ≡ None) × AreGrouped l g)
    (λ (g : Grouped). (first_of (absolute l ∷ use_mixed l ∷ group_split l ∷ []) ≡ None) × AreGrouped l g)
    (λ refusal. first_of (use_mixed l ∷ group_split l ∷ []) ≡ Some refusal)
    (λ refusal. first_of (absolute l ∷ use_mixed l ∷ group_split l ∷ []) ≡ Some refusal)
    (λ g v. (none-is (absolute l) (use_mixed l) (group_split l) (same ∙ c.in-Ok.ensures) v.0 v.1, v.2))
    (λ refusal h. later-is (absolute l) (use_mixed l) (group_split l) refusal (same ∙ c.in-Ok.ensures) h)
    (c.group_parts.ensures l a)
