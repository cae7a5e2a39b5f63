use Rattle.std.proofs.Common.{◌≡◌, ℕ, List, length, map, ap, subst, ◌∙◌}
use Rattle.obj_types.specs.declared.object.FixAt.{FixAt}
use Rattle.obj_types.specs.declared.object.Group.{Group}
use Rattle.obj_types.specs.declared.object.Piece.{Piece}
use Rattle.obj_types.specs.declared.object.Seg.{Seg}
use Rattle.obj_types.specs.declared.parts.BegunComdat.{BegunComdat}
use Rattle.obj_types.specs.declared.symbol.Pub.{Pub}
use Rattle.omf_model.specs.Finished.{public_for, piece_for, fix_for}
use Rattle.omf_comdat.specs.Finishing.{ends_for, ArePlaced}
use Rattle.omf_comdat.proofs.After.{finished-is}
use Rattle.omf_comdat.proofs.finish.with_comdats.Goals as goal

pub returns : goal.returns
returns c =
    let n : c.in_ok-segs.segs ≡ length c.args.parts.module.segs = c.in_ok-segs.ensures ∙ ap (λ (ss : List Seg). length ss) c.as_slice.ensures in
    let pubs = c.finish_pubs.ensures ∙ (ap (λ (ps : List Pub). map (public_for c.in_ok-segs.segs) ps) c.replace.ensures.value ∙ ap (λ (k : ℕ). map (public_for k) c.args.parts.module.pubs) n) in
    let pieces = c.finish_pieces.ensures ∙ (ap (λ (ps : List Piece). map (piece_for c.in_ok-segs.segs) ps) c.replace-2.ensures.value ∙ ap (λ (k : ℕ). map (piece_for k) c.args.parts.module.pieces) n) in
    let fixes = c.finish_fixes.ensures ∙ (ap (λ (fs : List FixAt). map (fix_for c.in_ok-segs.segs) fs) c.replace-3.ensures.value ∙ ap (λ (k : ℕ). map (fix_for k) c.args.parts.module.fixes) n) in
    let lens = c.in_ok-lens.ensures ∙ ap (λ (bs : List BegunComdat). ends_for c.args.parts.module.pieces (length bs)) c.as_slice-begun_count.ensures in
    let placed =
    subst (λ (ss : List Seg). ArePlaced ss c.args.parts.module.groups c.in_ok-lens.lens.items c.args.parts.comdats c.in_ok-own.own) c.replace-others.ensures.value
    (subst (λ (gs : List Group). ArePlaced c.replace-others.result gs c.in_ok-lens.lens.items c.args.parts.comdats c.in_ok-own.own) c.replace-groups.ensures.value
    (subst (λ (ns : List ℕ). ArePlaced c.replace-others.result c.replace-groups.result ns c.args.parts.comdats c.in_ok-own.own) c.deref.ensures.value c.in_ok-own.ensures)) in
    (λ i. record c.args.parts.module { segs = c.in_ok-own.own.segs; groups = c.in_ok-own.own.groups; pubs = pubs i; pieces = pieces i; fixes = fixes i; comdats = c.in_ok-own.own.comdats })
    ∙ finished-is c.args.parts c.in_ok-lens.lens.items c.in_ok-own.own lens placed
