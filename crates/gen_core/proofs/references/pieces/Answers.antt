use Rattle.std.proofs.Common.{◌++◌, ◌∷◌, ◌∙◌, [], List, map, sym, ap, zero-add}
use Rattle.std.specs.List.{range_with_len}
use Rattle.std.proofs.lemmas.List.FromFn.{map-range_with_len_more}
use Rattle.obj_types.specs.declared.object.Piece.{Piece}
use Rattle.gen_model.specs.Modules.{zero_piece}
use Rattle.gen_core.proofs.references.pieces.Goals as goal

pub loop-j-preserved : goal.loop-j-preserved
loop-j-preserved c =
    let j = c.loop-j.j in
    c.in_ok-push.ensures
    ∙ ap (λ (pieces : List Piece). pieces ++ c.in_ok-zero_piece.field-0 ∷ []) c.loop-j.invariant
    ∙ ap (λ (p : Piece). map zero_piece (range_with_len 0 j) ++ p ∷ []) c.in_ok-zero_piece.ensures
    ∙ sym (map-range_with_len_more zero_piece 0 j j (zero-add j))
