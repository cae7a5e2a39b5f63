-- All data of a whole link's modules has a place.
use Rattle.std.specs.Prelude.{◌≡◌, ℕ, ◌+◌, List, [], ◌∷◌, ◌++◌, Option, Some, None, IsSome, map, length, refl}
use Rattle.std.specs.List.{filter_map, flat_map, enumerate_from, cons_option}
use Rattle.std.specs.Option.{option_map}
use Rattle.std.proofs.Common.{ap, sym, ◌∙◌, true≢false}
use Rattle.std.proofs.lemmas.List.{map-append}
use Rattle.obj_types.specs.declared.object.Piece.{Piece}
use Rattle.obj_types.specs.declared.object.ObjModule.{ObjModule}
use Rattle.obj_types.specs.Whole.{LiesIn}
use Rattle.link_model.specs.Link.{Link, chosen_module}
use Rattle.link_model.specs.Layout.{spot}
use Rattle.link_model.specs.Mean.{PlacedPiece, placed_piece}
use Rattle.link_model.specs.NothingDropped.{WholeLink, PiecesStay}
use Rattle.link_model.proofs.Members.{In, here, there, all_in}
use Rattle.link_model.proofs.FixupsStay.{module_whole, numbered_module, lies_stands}

piece_by : (p : Piece) (o : Option (ℕ × ℕ)) (rest : List PlacedPiece) (bytes : List (List ℕ)) → IsSome o → map (λ x. x.bytes) rest ≡ bytes →
    map (λ x. x.bytes) (cons_option (option_map (λ q. record { object = q.0; offset = q.1 + p.offset; bytes = p.bytes }) o) rest) ≡ p.bytes ∷ bytes
piece_by p None rest bytes h e = absurd (true≢false (sym h))
piece_by p (Some q) rest bytes h e = ap (λ (t : List (List ℕ)). p.bytes ∷ t) e

stay : (l : Link) (n : ℕ) (ps : List Piece) → ((p : Piece) → In p ps → IsSome (spot l n p.seg)) → map (λ x. x.bytes) (filter_map (placed_piece l n) ps) ≡ map (λ p. p.bytes) ps
stay l n [] all = refl
stay l n (p ∷ ps) all =
    piece_by p (spot l n p.seg) (filter_map (placed_piece l n) ps) (map (λ p. p.bytes) ps) (all p here) (stay l n ps (λ q i. all q (there i)))

stay_in_modules : (l : Link) (b : ℕ) (ms : List ObjModule) → WholeLink l → ((q : ℕ × ObjModule) → In q (enumerate_from b ms) → chosen_module l q.0 ≡ Some q.1) →
    map (λ x. x.bytes) (flat_map (λ q. filter_map (placed_piece l q.0) q.1.pieces) (enumerate_from b ms)) ≡ flat_map (λ m. map (λ p. p.bytes) m.pieces) ms
stay_in_modules l b [] whole chosen = refl
stay_in_modules l b (m ∷ ms) whole chosen =
    let em = chosen (b, m) here in
    let w = module_whole l b m whole em in
    let first = stay l b m.pieces (λ p i. lies_stands l b m p.seg p.offset (length p.bytes) em (all_in (λ (p : Piece). LiesIn m p.seg p.offset (length p.bytes)) m.pieces w.pieces i)) in
    let rest = flat_map (λ (q : ℕ × ObjModule). filter_map (placed_piece l q.0) q.1.pieces) (enumerate_from (b + 1) ms) in
    map-append (λ (x : PlacedPiece). x.bytes) (filter_map (placed_piece l b) m.pieces) rest ∙ (ap (λ (t : List (List ℕ)). t ++ map (λ x. x.bytes) rest) first
    ∙ ap (λ (t : List (List ℕ)). map (λ p. p.bytes) m.pieces ++ t) (stay_in_modules l (b + 1) ms whole (λ q i. chosen q (there i))))

pub pieces_stay : PiecesStay
pieces_stay l whole = stay_in_modules l 1 l.modules whole (λ q i. numbered_module l q i)
