use Rattle.std.proofs.Common.{◌≡◌, sym, ap, subst, ◌∙◌, arith}
use Rattle.obj_types.specs.declared.object.Piece.{Piece}
use Rattle.omf_model.specs.Finished as done
use Rattle.omf_comdat.specs.Finishing.{HasIndex}
use Rattle.omf_comdat.proofs.Mapped.{there, item-is, items-same, turn, ended}
use Rattle.omf_comdat.proofs.finish.finish_pieces.Goals as goal

pub index_for-requires : goal.index_for-requires
index_for-requires c =
    let lt = there (done.piece_for c.args.segs) c.pieces.next c.args.pieces c.pieces.all.items c.pieces.invariant c.len.result c.pieces-test.true (c.len.ensures ∙ c.pieces.all.ok.0) in
    let is = item-is (done.piece_for c.args.segs) c.pieces.next c.args.pieces c.pieces.all.items c.pieces.invariant c.index.result.now c.index.ensures in
    subst (λ (x : Piece). HasIndex c.args.segs x.seg) (sym is) (c.requires c.pieces.next c.index.result.now lt)

pub pieces-smaller : goal.pieces-smaller
pieces-smaller c =
    let lt = there (done.piece_for c.args.segs) c.pieces.next c.args.pieces c.pieces.all.items c.pieces.invariant c.len.result c.pieces-test.true (c.len.ensures ∙ c.pieces.all.ok.0) in
    omega (arith, lt)

pub pieces-preserved : goal.pieces-preserved
pieces-preserved c =
    let lt = there (done.piece_for c.args.segs) c.pieces.next c.args.pieces c.pieces.all.items c.pieces.invariant c.len.result c.pieces-test.true (c.len.ensures ∙ c.pieces.all.ok.0) in
    let same = items-same (done.piece_for c.args.segs) c.pieces.next c.args.pieces c.pieces.all.items c.pieces.invariant c.index.result.now c.index_mut.result.now lt c.index.ensures c.index_mut.ensures.value in
    let changed : c.index_for.result ≡ done.index_for c.args.segs c.index_mut.result.now.seg = c.index_for.ensures ∙ ap (λ (x : Piece). done.index_for c.args.segs x.seg) same in
    turn (done.piece_for c.args.segs) c.pieces.next c.args.pieces c.pieces.all.items c.pieces.invariant c.index_mut.result.now _ lt c.index_mut.ensures.value (λ i. record c.index_mut.result.now { seg = changed i })

pub returns : goal.returns
returns c = c.from_vec.ensures ∙ ended (done.piece_for c.args.segs) c.pieces.next c.args.pieces c.pieces.all.items c.pieces.invariant c.len.result c.pieces-test.false (c.len.ensures ∙ c.pieces.all.ok.0)
