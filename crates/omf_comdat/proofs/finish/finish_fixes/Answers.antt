use Rattle.std.proofs.Common.{◌≡◌, sym, ap, subst, ◌∙◌, arith}
use Rattle.obj_types.specs.declared.object.FixAt.{FixAt}
use Rattle.omf_model.specs.Finished as done
use Rattle.omf_comdat.specs.Finishing.{HasIndex}
use Rattle.omf_comdat.proofs.Mapped.{there, item-is, items-same, turn, ended}
use Rattle.omf_comdat.proofs.finish.finish_fixes.Goals as goal

pub index_for-requires : goal.index_for-requires
index_for-requires c =
    let lt = there (done.fix_for c.args.segs) c.fixes.next c.args.fixes c.fixes.all.items c.fixes.invariant c.len.result c.fixes-test.true (c.len.ensures ∙ c.fixes.all.ok.0) in
    let is = item-is (done.fix_for c.args.segs) c.fixes.next c.args.fixes c.fixes.all.items c.fixes.invariant c.index.result.now c.index.ensures in
    subst (λ (x : FixAt). HasIndex c.args.segs x.seg) (sym is) (c.requires c.fixes.next c.index.result.now lt)

pub fixes-smaller : goal.fixes-smaller
fixes-smaller c =
    let lt = there (done.fix_for c.args.segs) c.fixes.next c.args.fixes c.fixes.all.items c.fixes.invariant c.len.result c.fixes-test.true (c.len.ensures ∙ c.fixes.all.ok.0) in
    omega (arith, lt)

pub fixes-preserved : goal.fixes-preserved
fixes-preserved c =
    let lt = there (done.fix_for c.args.segs) c.fixes.next c.args.fixes c.fixes.all.items c.fixes.invariant c.len.result c.fixes-test.true (c.len.ensures ∙ c.fixes.all.ok.0) in
    let same = items-same (done.fix_for c.args.segs) c.fixes.next c.args.fixes c.fixes.all.items c.fixes.invariant c.index.result.now c.index_mut.result.now lt c.index.ensures c.index_mut.ensures.value in
    let changed : c.index_for.result ≡ done.index_for c.args.segs c.index_mut.result.now.seg = c.index_for.ensures ∙ ap (λ (x : FixAt). done.index_for c.args.segs x.seg) same in
    turn (done.fix_for c.args.segs) c.fixes.next c.args.fixes c.fixes.all.items c.fixes.invariant c.index_mut.result.now _ lt c.index_mut.ensures.value (λ i. record c.index_mut.result.now { seg = changed i })

pub returns : goal.returns
returns c = c.from_vec.ensures ∙ ended (done.fix_for c.args.segs) c.fixes.next c.args.fixes c.fixes.all.items c.fixes.invariant c.len.result c.fixes-test.false (c.len.ensures ∙ c.fixes.all.ok.0)
