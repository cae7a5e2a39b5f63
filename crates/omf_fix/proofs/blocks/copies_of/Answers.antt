use Rattle.std.proofs.Common.{ℕ, ◌+◌, [], ◌∷◌, ◌++◌, ap, ◌∙◌}
use Rattle.omf_fix.proofs.CopiesFound.{each-fits, pushed_more, pushed_all}
use Rattle.omf_fix.proofs.blocks.copies_of.Goals as goal

pub in_segment-requires : goal.in_segment-requires
in_segment-requires c = each-fits c.args.places.now c.args.start c.places.next _ c.places-test.true c.requires

pub places-preserved : goal.places-preserved
places-preserved c =
    pushed_more (λ x. c.args.start + x) c.args.places.now c.places.copies.items c.push.new.self.items _ c.places.next c.places.invariant c.places-test.true
    (c.in_ok-push.ensures.items ∙ ap (λ (k : ℕ). c.places.copies.items ++ k ∷ []) c.in_segment.ensures)

pub returns : goal.returns
returns c = pushed_all (λ x. c.args.start + x) c.args.places.now c.places.copies.items _ c.places.next c.places.invariant c.places-test.false
