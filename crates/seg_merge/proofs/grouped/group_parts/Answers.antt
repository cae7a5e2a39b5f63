use Rattle.std.proofs.Common.{◌≡◌, ◌∙◌, ap, sym, map, Some, None, [], ◌∷◌, ℕ, List}
use Rattle.obj_types.specs.declared.definition.DefFile.{DefFile}
use Rattle.link_model.specs.declared.keys.SegmentKey.{SegmentKey}
use Rattle.link_model.specs.LayoutRefusals.{use_mixed, group_split}
use Rattle.link_model.specs.Link.{Link}
use Rattle.link_model.specs.Parts.{Part}
use Rattle.link_model.specs.Words.{first_of}
use Rattle.seg_parts.specs.Members.{member_shown}
use Rattle.lx_types.proofs.Failing.{handed_on}
use Rattle.seg_merge.specs.declared.grouped.Grouped.{Grouped}
use Rattle.seg_merge.specs.Grouped.{AreGrouped}
use Rattle.seg_merge.specs.Refused.{AreOf}
use Rattle.seg_merge.proofs.grouped.group_parts.Goals as goal

-- The same of the parts as logical segments have them, and of the members as they are lent.
as_lent : (l : Link) (def : DefFile) (ps segments : List Part) (names : List (List ℕ)) (ms lent : List (List ℕ × SegmentKey)) → segments ≡ ps → lent ≡ ms → AreOf l def ps names ms → AreOf l def segments names lent
as_lent l def ps segments names ms lent segments_are lent_is a = record {
  def_is = a.def_is;
  parts_are = a.parts_are ∙ sym segments_are;
  names_are = a.names_are;
  members_are = a.members_are ∙ sym lent_is;
}

pub check_segments-requires : goal.check_segments-requires
check_segments-requires c = (c.requires.0, as_lent c.requires.0 _ _ _ _ _ _ c.in_ok-segments.ensures (ap (map member_shown) c.as_slice.ensures.value) c.requires.1)

pub returns-in-Err : goal.returns-in-Err
returns-in-Err c = λ l a.
    handed_on c.in-Err.fail
    (λ (u : Unit {0}). (use_mixed l ≡ None) × (group_split l ≡ None))
    (λ (g : Grouped). (use_mixed l ≡ None) × (group_split l ≡ None) × AreGrouped l g)
    (λ refusal. first_of (use_mixed l ∷ group_split l ∷ []) ≡ Some refusal)
    (λ refusal. first_of (use_mixed l ∷ group_split l ∷ []) ≡ Some refusal)
    (λ refusal h. h)
    (c.in-Err.ensures l (as_lent l _ _ _ _ _ _ c.in_ok-segments.ensures (ap (map member_shown) c.as_slice.ensures.value) a))

pub returns : goal.returns
returns c = λ l a.
    let both = c.in-Ok.ensures l (as_lent l _ _ _ _ _ _ c.in_ok-segments.ensures (ap (map member_shown) c.as_slice.ensures.value) a) in (
      both.0,
      both.1,
      record {
        parts_are = c.in_ok-segments.ensures ∙ sym a.parts_are;
        names_are = sym a.names_are;
        members_are = sym a.members_are;
      },
    )
