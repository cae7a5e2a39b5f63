use Rattle.std.proofs.Common.{◌≡◌, ◌∙◌, ap, sym, length, map, arith, Option, Some, None, [], ◌∷◌}
use Rattle.std.specs.Option.{option_or}
use Rattle.std.proofs.lemmas.List.{length-map}
use Rattle.link_model.specs.declared.refusals.LayRefusal.{LayRefusal}
use Rattle.link_model.specs.Groups.{group_names}
use Rattle.link_model.specs.LayoutRefusals.{use_mixed, group_split}
use Rattle.link_model.specs.Words.{first_of}
use Rattle.seg_parts.specs.Attributes.{flags_in}
use Rattle.seg_parts.specs.LogicalSegments.{heads_of}
use Rattle.seg_parts.specs.Members.{member_shown, is_member}
use Rattle.seg_parts.specs.Parts.{shown}
use Rattle.lx_types.proofs.Failing.{handed_on, answered}
use Rattle.seg_merge.proofs.CheckedSegments.{lists-long, slice-below, groups-are, split-groups, flags-are}
use Rattle.seg_merge.proofs.LinkGroups.{names-apart}
use Rattle.seg_merge.proofs.Refusals.{second-is}
use Rattle.seg_merge.proofs.refused.check_segments.Goals as goal

pub membership_of-requires : goal.membership_of-requires
membership_of-requires c = record { apart = names-apart c.requires.0 c.args.names.now c.requires.1.names_are }

pub check_use-requires-clause-one_each : goal.check_use-requires-clause-one_each
check_use-requires-clause-one_each c =
    lists-long (λ v. v.items) c.in_ok-groups.groups.items c.as_slice.result.now (is_member (map member_shown c.args.members.now)) c.args.names.now (heads_of c.args.segments.now) c.as_slice.ensures.value c.in_ok-groups.ensures

pub check_use-requires-clause-below : goal.check_use-requires-clause-below
check_use-requires-clause-below c = λ k d lt j e under.
    let count : length c.names.result.now ≡ length c.args.names.now = sym (length-map c.names.result.now (λ n. n.now)) ∙ ap length c.names.ensures in
    let below = slice-below (λ v. v.items) c.in_ok-groups.groups.items c.as_slice.result.now (is_member (map member_shown c.args.members.now)) c.args.names.now (heads_of c.args.segments.now) c.as_slice.ensures.value c.in_ok-groups.ensures k d lt j e under in
    omega (arith, below, count)

pub returns-in-Err : goal.returns-in-Err
returns-in-Err c = λ l a.
    let count : length (group_names l) ≡ length c.names.result.now = ap length a.names_are ∙ sym (sym (length-map c.names.result.now (λ n. n.now)) ∙ ap length c.names.ensures) in
    handed_on c.in-Err.fail
    (λ (u : Unit {0}). use_mixed l ≡ None)
    (λ (u : Unit {0}). (use_mixed l ≡ None) × (group_split l ≡ None))
    (λ refusal. use_mixed l ≡ Some refusal)
    (λ refusal. first_of (use_mixed l ∷ group_split l ∷ []) ≡ Some refusal)
    (λ refusal h. ap (λ (o : Option LayRefusal). option_or o (first_of (group_split l ∷ []))) h)
    (c.in-Err.ensures l a.parts_are
    (groups-are l c.args.def.now c.args.segments.now c.args.names.now (map member_shown c.args.members.now) a (map (λ v. v.items) c.in_ok-groups.groups.items) (map (λ v. v.items) c.as_slice.result.now) (ap (map (λ v. v.items)) c.as_slice.ensures.value) c.in_ok-groups.ensures)
    count)

pub check_groups-requires-clause-one_each : goal.check_groups-requires-clause-one_each
check_groups-requires-clause-one_each c =
    ap length c.as_slice-in-Ok-2.ensures.value ∙ ap length c.in_ok-flags.ensures ∙ length-map (map shown c.heads.result.now) (flags_in c.args.def.now) ∙ ap length c.heads.ensures
    ∙ sym (lists-long (λ v. v.items) c.in_ok-groups.groups.items c.as_slice-in-Ok.result.now (is_member (map member_shown c.args.members.now)) c.args.names.now (heads_of c.args.segments.now) c.as_slice-in-Ok.ensures.value c.in_ok-groups.ensures)

pub check_groups-requires-clause-below : goal.check_groups-requires-clause-below
check_groups-requires-clause-below c =
    slice-below (λ v. v.items) c.in_ok-groups.groups.items c.as_slice-in-Ok.result.now (is_member (map member_shown c.args.members.now)) c.args.names.now (heads_of c.args.segments.now) c.as_slice-in-Ok.ensures.value c.in_ok-groups.ensures

pub returns : goal.returns
returns c = λ l a.
    let count : length (group_names l) ≡ length c.names.result.now = ap length a.names_are ∙ sym (sym (length-map c.names.result.now (λ n. n.now)) ∙ ap length c.names.ensures) in
    let used : use_mixed l ≡ None =
    c.in-Ok.ensures l a.parts_are
    (groups-are l c.args.def.now c.args.segments.now c.args.names.now (map member_shown c.args.members.now) a (map (λ v. v.items) c.in_ok-groups.groups.items) (map (λ v. v.items) c.as_slice.result.now) (ap (map (λ v. v.items)) c.as_slice.ensures.value) c.in_ok-groups.ensures)
    count in
    answered c.check_groups.result
    (λ (u : Unit {0}). group_split l ≡ None)
    (λ (u : Unit {0}). (use_mixed l ≡ None) × (group_split l ≡ None))
    (λ refusal. group_split l ≡ Some refusal)
    (λ refusal. first_of (use_mixed l ∷ group_split l ∷ []) ≡ Some refusal)
    (λ u h. (used, h))
    (λ refusal h. second-is (use_mixed l) (group_split l) refusal used h)
    (c.check_groups.ensures l a.names_are
    (split-groups l c.args.def.now c.args.segments.now c.args.names.now (map member_shown c.args.members.now) a (map (λ v. v.items) c.in_ok-groups.groups.items) (map (λ v. v.items) c.as_slice-in-Ok.result.now) (ap (map (λ v. v.items)) c.as_slice-in-Ok.ensures.value) c.in_ok-groups.ensures)
    (flags-are l c.args.def.now c.args.segments.now c.args.names.now (map member_shown c.args.members.now) a c.heads.result.now c.in_ok-flags.flags.items c.as_slice-in-Ok-2.result.now c.as_slice-in-Ok-2.ensures.value c.in_ok-flags.ensures c.heads.ensures)
    used)
