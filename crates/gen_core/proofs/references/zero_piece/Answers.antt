use Rattle.std.proofs.Common.{ℕ, ◌*◌, ◌∙◌, List, ap}
use Rattle.obj_types.specs.declared.object.Piece.{Piece}
use Rattle.gen_core.proofs.references.zero_piece.Goals as goal
use Rattle.gen_model.specs.declared.numbers.TheConstants.{PIECE_LEN}

pub returns : goal.returns
returns c =
    let made : List ℕ → Piece = λ bytes. record { seg = 1; offset = PIECE_LEN * c.args.j; bytes = bytes } in
    ap made (c.from_vec.ensures ∙ c.in_ok-vec.ensures.items_if_clones_equal (λ y is. is))
