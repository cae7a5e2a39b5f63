use Rattle.std.proofs.Common.{◌≡◌, sym, ap, subst, ◌∙◌, arith}
use Rattle.obj_types.specs.declared.symbol.Pub.{Pub}
use Rattle.omf_model.specs.Finished as done
use Rattle.omf_comdat.specs.Finishing.{PlaceHasIndex}
use Rattle.omf_comdat.proofs.Mapped.{there, item-is, items-same, turn, ended}
use Rattle.omf_comdat.proofs.finish.finish_pubs.Goals as goal

pub place_for-requires : goal.place_for-requires
place_for-requires c =
    let lt = there (done.public_for c.args.segs) c.pubs.next c.args.pubs c.pubs.all.items c.pubs.invariant c.len.result c.pubs-test.true (c.len.ensures ∙ c.pubs.all.ok.0) in
    let is = item-is (done.public_for c.args.segs) c.pubs.next c.args.pubs c.pubs.all.items c.pubs.invariant c.index.result.now c.index.ensures in
    subst (λ (x : Pub). PlaceHasIndex c.args.segs x.place) (sym is) (c.requires c.pubs.next c.index.result.now lt)

pub pubs-smaller : goal.pubs-smaller
pubs-smaller c =
    let lt = there (done.public_for c.args.segs) c.pubs.next c.args.pubs c.pubs.all.items c.pubs.invariant c.len.result c.pubs-test.true (c.len.ensures ∙ c.pubs.all.ok.0) in
    omega (arith, lt)

pub pubs-preserved : goal.pubs-preserved
pubs-preserved c =
    let lt = there (done.public_for c.args.segs) c.pubs.next c.args.pubs c.pubs.all.items c.pubs.invariant c.len.result c.pubs-test.true (c.len.ensures ∙ c.pubs.all.ok.0) in
    let same = items-same (done.public_for c.args.segs) c.pubs.next c.args.pubs c.pubs.all.items c.pubs.invariant c.index.result.now c.index_mut.result.now lt c.index.ensures c.index_mut.ensures.value in
    let changed : c.place_for.result ≡ done.place_for c.args.segs c.index_mut.result.now.place = c.place_for.ensures ∙ ap (λ (x : Pub). done.place_for c.args.segs x.place) same in
    turn (done.public_for c.args.segs) c.pubs.next c.args.pubs c.pubs.all.items c.pubs.invariant c.index_mut.result.now _ lt c.index_mut.ensures.value (λ i. record c.index_mut.result.now { place = changed i })

pub returns : goal.returns
returns c = c.from_vec.ensures ∙ ended (done.public_for c.args.segs) c.pubs.next c.args.pubs c.pubs.all.items c.pubs.invariant c.len.result c.pubs-test.false (c.len.ensures ∙ c.pubs.all.ok.0)
