-- One more piece of data.
use Rattle.std.specs.Prelude.{◌≡◌, ℕ, ◌+◌, ◌-◌, ◌<◌, Bool, true, false, cond, ◌==◌, nat_le, nat_lt, List, [], ◌∷◌, ◌++◌, Option, Some, reverse, take, length, find, slice_index, refl}
use Rattle.std.specs.Option.{option_map_or}
use Rattle.std.proofs.Common.{ap, sym, ◌∙◌, get_or}
use Rattle.std.proofs.lemmas.List.{take_more, reverse-append}
use Rattle.std.proofs.Math.Bool.{and_assoc}
use Rattle.obj_types.specs.declared.object.Piece.{Piece}
use Rattle.obj_types.specs.Data.{covers}
use Rattle.link_fix.specs.declared.images.Images.{Images}
use Rattle.link_fix.specs.Images.{byte_of, byte_after}
use Rattle.link_fix.specs.Pieces.{of_pieces}

pub reverse-more : {X : Type 0} (xs : List X) (i : ℕ) (x : X) → i < length xs → x ≡ get_or xs i x → reverse (take (i + 1) xs) ≡ x ∷ reverse (take i xs)
reverse-more xs i x h is =
    ap reverse (take_more xs i x h ∙ ap (λ y. take i xs ++ y ∷ []) (sym is)) ∙ reverse-append (take i xs) (x ∷ [])

pub covered_by : (b : Bool) (p : Piece) (o : Option Piece) (x : ℕ) → option_map_or (λ p. slice_index p.bytes (x - p.offset)) (cond b (Some p) o) 0 ≡ cond b (slice_index p.bytes (x - p.offset)) (option_map_or (λ p. slice_index p.bytes (x - p.offset)) o 0)
covered_by true p o x = refl
covered_by false p o x = refl

-- A piece is painted over those before it.
pub piece-more : (old new : Images) (ps : List Piece) (i : ℕ) (p : Piece) → i < length ps → p ≡ get_or ps i p → ((seg : ℕ) (x : ℕ) → byte_of old seg x ≡ of_pieces (take i ps) seg x) → ((n : ℕ) (x : ℕ) → byte_of new n x ≡ byte_after old p.seg p.offset p.bytes n x)
    → (seg : ℕ) (x : ℕ) → byte_of new seg x ≡ of_pieces (take (i + 1) ps) seg x
piece-more old new ps i p h is before painted = λ seg x.
    let value : ℕ = slice_index p.bytes (x - p.offset) in
    painted seg x
    ∙ ap (λ (b : Bool). cond b value (byte_of old seg x)) (and_assoc (p.seg == seg) (nat_le p.offset x) (nat_lt x (p.offset + length p.bytes)))
    ∙ ap (cond (covers seg x p) value) (before seg x)
    ∙ sym (covered_by (covers seg x p) p (find (covers seg x) (reverse (take i ps))) x)
    ∙ ap (λ (ls : List Piece). option_map_or (λ p. slice_index p.bytes (x - p.offset)) (find (covers seg x) ls) 0) (sym (reverse-more ps i p h is))
