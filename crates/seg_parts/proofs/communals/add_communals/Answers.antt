use Rattle.std.proofs.Common.{◌≡◌, ◌∙◌, ◌∷◌, [], ◌+◌, ap, map, ℕ, List, arith}
use Rattle.std.proofs.lemmas.List.{map-append}
use Rattle.obj_types.specs.declared.symbol.Common.{Common}
use Rattle.link_model.specs.Parts as rules
use Rattle.seg_parts.specs.Parts.{shown}
use Rattle.seg_parts.specs.Communals.{communal_of}
use Rattle.seg_parts.proofs.Lists.{each-more}
use Rattle.seg_parts.proofs.communals.add_communals.Goals as goal

pub loop-slot-preserved : goal.loop-slot-preserved
loop-slot-preserved c =
    let f : ℕ × (List ℕ × Common) → rules.Part = λ q. communal_of c.args.widths.near c.args.widths.far q.0 q.1.1 in
    let count : c.in_ok-count.field-0 ≡ 0 + c.loop-slot.slot = omega (arith, c.in_ok-count.ensures) in
    each-more f 0 (map shown c.args.parts.now.items) (map shown c.loop-slot.parts.items) (map shown c.push.new.self.items)
    c.args.commons.now c.loop-slot.slot c.index-commons-slot.result (shown c.communal_part.result) c.loop-slot-test.true c.index-commons-slot.is
    (c.communal_part.ensures ∙ ap (λ n. communal_of c.args.widths.near c.args.widths.far n c.index-commons-slot.result.1) count) c.loop-slot.invariant
    (ap (map shown) c.in_ok-push.ensures.items ∙ map-append shown c.loop-slot.parts.items (c.communal_part.result ∷ []))
