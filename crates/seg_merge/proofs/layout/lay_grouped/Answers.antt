use Rattle.std.proofs.Common.{◌≡◌, ◌∙◌, ap, sym, map, length, refl, arith, List}
use Rattle.std.proofs.lemmas.List.{length-map}
use Rattle.link_model.specs.Link.{Link}
use Rattle.link_model.specs.Parts.{Part}
use Rattle.seg_parts.specs.LogicalSegments.{heads_of}
use Rattle.seg_parts.specs.Members.{member_shown}
use Rattle.seg_parts.specs.Parts.{shown}
use Rattle.link_types.specs.Links.{link_with}
use Rattle.seg_merge.proofs.StandingOrder.{all-are, no-fewer, standing-order, order-by}
use Rattle.link_model.proofs.RowLimits.{base-within}
use Rattle.seg_merge.proofs.layout.lay_grouped.Goals as goal

pub add_numbers-requires : goal.add_numbers-requires
add_numbers-requires c =
    let l : Link = link_with c.args.input.now c.args.modules.now in
    let before : length c.heads-count.result.now ≡ length (heads_of c.args.grouped.segments) = sym (length-map c.heads-count.result.now shown) ∙ ap length c.heads-count.ensures in
    let after : length c.heads-2.result.now ≡ length (heads_of c.in_ok-segments.segments) = sym (length-map c.heads-2.result.now shown) ∙ ap length c.heads-2.ensures in
    omega (arith, before, after, no-fewer l c.args.grouped.segments c.in_ok-segments.segments c.requires.grouped.parts_are c.in_ok-segments.ensures)

pub lay_segments-requires-clause-base : goal.lay_segments-requires-clause-base
lay_segments-requires-clause-base c = base-within c.args.input.now.def.base c.args.input.now.def.kind c.requires.whole.def.base

pub lay_segments-requires-clause-order : goal.lay_segments-requires-clause-order
lay_segments-requires-clause-order c =
    let l : Link = link_with c.args.input.now c.args.modules.now in
    let plain : List Part = c.args.grouped.segments in
    let all : List Part = c.in_ok-segments.segments in
    let before : length c.heads-count.result.now ≡ length (heads_of plain) = sym (length-map c.heads-count.result.now shown) ∙ ap length c.heads-count.ensures in
    let after : length c.heads-2.result.now ≡ length (heads_of all) = sym (length-map c.heads-2.result.now shown) ∙ ap length c.heads-2.ensures in (
      l,
      record {
        modules_are = refl;
        def_is = refl;
        parts_are = all-are l plain all c.requires.grouped.parts_are c.in_ok-segments.ensures;
        names_are = c.requires.grouped.names_are;
        members_are = ap (map member_shown) c.as_slice-2.ensures.value ∙ c.requires.grouped.members_are;
        order_is =
            standing-order l plain all c.requires.grouped.parts_are c.in_ok-segments.ensures c.as_slice.result.now
            (c.as_slice.ensures.value ∙ order-by plain all (map shown c.heads.result.now) c.in_ok-order.order.items c.add_numbers.new.order.items (length c.heads-count.result.now) (length c.heads-2.result.now)
            c.heads.ensures c.in_ok-order.ensures c.in_ok-add_numbers.ensures before after);
      },
    )

pub returns : goal.returns
returns c =
    let l : Link = link_with c.args.input.now c.args.modules.now in
    let plain : List Part = c.args.grouped.segments in
    let all : List Part = c.in_ok-segments.segments in
    let before : length c.heads-count.result.now ≡ length (heads_of plain) = sym (length-map c.heads-count.result.now shown) ∙ ap length c.heads-count.ensures in
    let after : length c.heads-2.result.now ≡ length (heads_of all) = sym (length-map c.heads-2.result.now shown) ∙ ap length c.heads-2.ensures in
    c.lay_segments.ensures l (record {
      modules_are = refl;
      def_is = refl;
      parts_are = all-are l plain all c.requires.grouped.parts_are c.in_ok-segments.ensures;
      names_are = c.requires.grouped.names_are;
      members_are = ap (map member_shown) c.as_slice-2.ensures.value ∙ c.requires.grouped.members_are;
      order_is =
          standing-order l plain all c.requires.grouped.parts_are c.in_ok-segments.ensures c.as_slice.result.now
          (c.as_slice.ensures.value ∙ order-by plain all (map shown c.heads.result.now) c.in_ok-order.order.items c.add_numbers.new.order.items (length c.heads-count.result.now) (length c.heads-2.result.now)
          c.heads.ensures c.in_ok-order.ensures c.in_ok-add_numbers.ensures before after);
    })
