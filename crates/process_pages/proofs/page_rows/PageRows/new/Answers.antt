use Rattle.std.proofs.Common.{◌≡◌, ◌∙◌, arith, ap, length, List}
use Rattle.lx_types.specs.declared.object.ObjHead.{ObjHead}
use Rattle.process_pages.proofs.Positions.{empty_rows}
use Rattle.process_pages.proofs.page_rows.PageRows.new.Goals as goal

pub returns : goal.returns
returns c =
    let objects : length c.objects-objects.result.now ≡ length c.args.m.now.objects = ap (λ (xs : List ObjHead). length xs) c.objects-objects.ensures.list in
    let all : c.loop-before.before ≡ length c.args.m.now.objects = omega (arith, c.in_ok-before-end.ensures, objects) in
    let long = c.loop-before.invariant.0 in
    empty_rows c.args.m.now c.loop-before.rows.items (long ∙ all) (λ k u. c.loop-before.invariant.1 k (omega arith))
