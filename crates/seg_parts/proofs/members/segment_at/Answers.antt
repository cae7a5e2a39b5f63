use Rattle.std.proofs.Common.{◌∙◌, ◌<◌, ap, sym, cond, arith, ℕ, Bool, Some, None}
use Rattle.std.specs.Option.{option_map, option_and_then}
use Rattle.link_model.specs.Parts as rules
use Rattle.seg_parts.specs.Members.{segment_at}
use Rattle.seg_parts.proofs.Listed.{plain_part, no-zero, found-part}
use Rattle.seg_parts.proofs.members.segment_at.Goals as goal

pub returns-then-index-eq0 : goal.returns-then-index-eq0
returns-then-index-eq0 c =
    sym (ap (λ (j : ℕ). segment_at c.args.module c.args.object.now j) c.if-index-eq0.true ∙ ap (option_map rules.segment_key) (no-zero c.args.module c.args.object.now))

pub returns-in-None : goal.returns-in-None
returns-in-None c =
    let above : 0 < c.args.index = omega (arith, c.if-index-eq0.false) in
    sym (ap (option_map rules.segment_key)
    (found-part c.args.module c.args.index c.args.object.now above
    ∙ ap (option_and_then (plain_part c.args.module c.args.index)) (sym c.in-None.ensures)))

pub returns-then-seg : goal.returns-then-seg
returns-then-seg c =
    let above : 0 < c.args.index = omega (arith, c.if-index-eq0.false) in
    sym (ap (option_map rules.segment_key)
    (found-part c.args.module c.args.index c.args.object.now above
    ∙ ap (option_and_then (plain_part c.args.module c.args.index)) (sym c.in-Some.ensures)
    ∙ ap (λ (b : Bool). cond b None (Some (rules.of_seg c.args.module c.args.index c.in-Some.seg.now))) c.if-seg.true))

pub returns-else-seg : goal.returns-else-seg
returns-else-seg c =
    let above : 0 < c.args.index = omega (arith, c.if-index-eq0.false) in
    ap Some (c.name_of.ensures ∙ ap rules.segment_key c.part_of.ensures)
    ∙ sym (ap (option_map rules.segment_key)
    (found-part c.args.module c.args.index c.args.object.now above
    ∙ ap (option_and_then (plain_part c.args.module c.args.index)) (sym c.in-Some.ensures)
    ∙ ap (λ (b : Bool). cond b None (Some (rules.of_seg c.args.module c.args.index c.in-Some.seg.now))) c.if-seg.false))
