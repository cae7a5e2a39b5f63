use Rattle.std.proofs.Common.{sym, ap, ◌+◌, ◌∙◌, map, List}
use Rattle.std.proofs.lemmas.List.{get_or_default}
use Rattle.std.proofs.Math.ListN.{drop_of_length-le}
use Rattle.lx_types.specs.declared.object.ObjHead.{ObjHead}
use Rattle.image_model.specs.LinkLaws.{laid}
use Rattle.image_pages.specs.Memory.{full_from}
use Rattle.image_pages.proofs.Full.{full_more, full_here}
use Rattle.image_pages.proofs.refusals.full_object.Goals as goal

pub loop-index-preserved : goal.loop-index-preserved
loop-index-preserved c =
    full_more c.args.objects.now c.loop-index.index _ _ c.loop-index-test.true (get_or_default c.args.objects.now c.loop-index.index _ _ c.loop-index-test.true)
    (sym c.is_past.ensures ∙ c.if-is_past.false) c.loop-index.invariant

pub returns : goal.returns
returns c =
    ap (λ (os : List ObjHead). full_from (1 + c.loop-index.index) (map laid os)) (sym (drop_of_length-le c.args.objects.now c.loop-index-test.false)) ∙ c.loop-index.invariant

pub returns-then-is_past : goal.returns-then-is_past
returns-then-is_past c =
    full_here c.args.objects.now c.loop-index.index _ _ _ c.loop-index-test.true (get_or_default c.args.objects.now c.loop-index.index _ _ c.loop-index-test.true)
    (sym c.is_past.ensures ∙ c.if-is_past.true) c.in_ok-count.ensures c.loop-index.invariant
