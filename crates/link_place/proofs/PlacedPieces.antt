-- By the places of a link its data is that of the rules.
use Rattle.std.specs.Prelude.{◌≡◌, ℕ, ◌+◌, List, [], ◌∷◌, ◌++◌, Option, refl}
use Rattle.std.specs.Option.{option_map}
use Rattle.std.specs.List.{filter_map, cons_option, flat_map, enumerate_from}
use Rattle.std.proofs.Common.{ap, sym, ◌∙◌}
use Rattle.obj_types.specs.declared.object.Piece.{Piece}
use Rattle.obj_types.specs.declared.object.ObjModule.{ObjModule}
use Rattle.link_model.specs.Link.{Link}
use Rattle.link_model.specs.Mean.{PlacedPiece, placed_piece, pieces}
use Rattle.link_types.specs.declared.places.Places.{Places}
use Rattle.link_types.specs.Places.{ArePlaces}
use Rattle.link_place.specs.PlacedData.{placed_at, placed_in}

piece_is : (l : Link) (p : Places) (n : ℕ) (x : Piece) → ArePlaces l p → placed_at p n x ≡ placed_piece l n x
piece_is l p n x are =
    ap (λ (o : Option (ℕ × ℕ)). option_map (λ (q : ℕ × ℕ). let r : PlacedPiece = record { object = q.0; offset = q.1 + x.offset; bytes = x.bytes } in r) o) (are.spots n x.seg)

picked_same : (f g : Piece → Option PlacedPiece) (xs : List Piece) → ((x : Piece) → f x ≡ g x) → filter_map f xs ≡ filter_map g xs
picked_same f g [] same = refl
picked_same f g (x ∷ xs) same =
    ap (λ (o : Option PlacedPiece). cons_option o (filter_map f xs)) (same x) ∙ ap (λ (ys : List PlacedPiece). cons_option (g x) ys) (picked_same f g xs same)

in_modules : (l : Link) (p : Places) (ms : List (ℕ × ObjModule)) → ArePlaces l p → flat_map (λ q. placed_in p q.0 q.1) ms ≡ flat_map (λ q. filter_map (placed_piece l q.0) q.1.pieces) ms
in_modules l p [] are = refl
in_modules l p (q ∷ ms) are =
    ap (λ (qs : List PlacedPiece). qs ++ flat_map (λ q. placed_in p q.0 q.1) ms) (picked_same (placed_at p q.0) (placed_piece l q.0) q.1.pieces (λ x. piece_is l p q.0 x are))
    ∙ ap (λ (rest : List PlacedPiece). filter_map (placed_piece l q.0) q.1.pieces ++ rest) (in_modules l p ms are)

pub pieces-are : (l : Link) (p : Places) (ms : List ObjModule) (found : List PlacedPiece) → l.modules ≡ ms → ArePlaces l p → found ≡ flat_map (λ q. placed_in p q.0 q.1) (enumerate_from 1 ms) → found ≡ pieces l
pieces-are l p ms found of are is =
    is ∙ in_modules l p (enumerate_from 1 ms) are
    ∙ ap (λ (xs : List ObjModule). flat_map (λ q. filter_map (placed_piece l q.0) q.1.pieces) (enumerate_from 1 xs)) (sym of)
