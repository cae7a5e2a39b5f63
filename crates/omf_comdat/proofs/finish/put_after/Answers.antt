use Rattle.std.proofs.Common.{◌∷◌, ◌++◌, [], List, length, sym, ap, subst, ◌∙◌}
use Rattle.obj_types.specs.declared.object.Seg.{Seg}
use Rattle.obj_types.specs.declared.object.Comdat.{Comdat}
use Rattle.omf_comdat.specs.declared.finish.Placed.{Placed}
use Rattle.omf_comdat.specs.Finishing.{ArePlaced}
use Rattle.omf_comdat.proofs.After.{none-placed, one-placed}
use Rattle.omf_comdat.proofs.finish.put_after.Goals as goal

pub loop-own-init : goal.loop-own-init
loop-own-init c = subst (λ (cs : List Comdat). ArePlaced c.args.segs c.args.groups c.args.lens.now [] (record { segs = c.args.segs; groups = c.args.groups; comdats = cs })) (sym c.new-comdats.ensures) (none-placed c.args.segs c.args.groups c.args.lens.now)

pub loop-own-preserved : goal.loop-own-preserved
loop-own-preserved c =
    let p : Placed = record { segs = c.loop-own.segs; groups = c.loop-own.groups; comdats = c.loop-own.comdats } in
    let place = ap (λ (cs : List Comdat). length cs) c.as_slice-place.ensures in
    let more = c.in_ok-push.ensures ∙ ap (λ (x : Seg). c.loop-own.segs ++ x ∷ []) c.with_len.ensures in
    let seg = c.in_ok-seg.ensures ∙ ap (λ (ss : List Seg). length ss) c.as_slice.ensures in
    subst (ArePlaced c.args.segs c.args.groups c.args.lens.now (c.loop-own.yielded ++ c.in-Some.own ∷ []))
    (λ i. record { segs = c.push.new.self; groups = sym c.in_ok-groups.ensures i; comdats = sym c.in_ok-push-2.ensures i })
    (one-placed c.args.segs c.args.groups c.args.lens.now c.loop-own.yielded p c.in-Some.own _ c.in_ok-seg.seg c.push.new.self c.loop-own.invariant place more seg)
