-- Bytes and numbers of the smallest link, in the words of std.
use Rattle.std.specs.Prelude.{◌≡◌, ℕ, ◌+◌, ◌/◌, ◌%◌, ◌≤◌, ◌<◌, Bool, true, false, cond, ◌&&◌, List, [], ◌∷◌, Some, None, length, take, drop, nat_lt, nat_le, slice_index, refl}
use Rattle.std.specs.Int.{w32, from_le_bytes, to_le_bytes}
use Rattle.std.specs.Option.{option_map_or}
use Rattle.std.proofs.Common.{ap, sym, ◌∙◌, arith}
use Rattle.std.proofs.Math.Nat.{mod-eq_of_lt, div-div-eq-div-mul, mod-mod, mod-add-mod, zero-add, add-zero}
use Rattle.std.proofs.Math.ListN.{get_or-eq_default}
use Rattle.std.proofs.lemmas.List.{get_or-take, get_or-drop}
use Rattle.std.proofs.lemmas.Bool.{ltb-false}
use Rattle.std.proofs.Math.Dec.{leb-zero}
use Rattle.lx_bytes.specs.LittleEndian.{little_bytes, little}
use Rattle.link_model.specs.Words.{wrapped}

pub wrapped_small : (a : ℕ) → a < 4294967296 → wrapped (0 + a) ≡ a
wrapped_small a h = mod-eq_of_lt (omega arith) ∙ zero-add a

-- The four low bytes, both ways of writing them.
pub four_bytes : (v : ℕ) → little_bytes 4 v ≡ to_le_bytes w32 v
four_bytes v =
    rw (div-div-eq-div-mul (v / 256) 256 256, div-div-eq-div-mul v 256 256, div-div-eq-div-mul v 256 65536) refl

-- The number of four bytes.
pub four_number : (a b c d : ℕ) → little (a ∷ b ∷ c ∷ d ∷ []) ≡ from_le_bytes w32 (a ∷ b ∷ c ∷ d ∷ [])
four_number a b c d = omega arith

collapsed : (at : ℕ) → ((at + 0) % 4294967296 + 0) % 4294967296 ≡ at % 4294967296
collapsed at =
    ap (λ (n : ℕ). n % 4294967296) (add-zero ((at + 0) % 4294967296)) ∙ (mod-mod (at + 0) 4294967296 ∙ ap (λ (n : ℕ). n % 4294967296) (add-zero at))

pub sum_wrapped : (at s : ℕ) → wrapped (wrapped (wrapped (at + 0) + 0) + s) ≡ (at + s) % 4294967296
sum_wrapped at s =
    ap (λ (n : ℕ). (n + s) % 4294967296) (collapsed at) ∙ mod-add-mod at 4294967296 s

-- What a piece that begins a segment says of each of its bytes; past them all bytes are 0.
in_piece_by :
    {X : Type 0} (read : X → ℕ) (p : X) (bytes : List ℕ) (x : ℕ) (b : Bool) → read p ≡ slice_index bytes x → nat_lt x (0 + length bytes) ≡ b → option_map_or read (cond b (Some p) None) 0 ≡ slice_index bytes x
in_piece_by read p bytes x true same e = same
in_piece_by read p bytes x false same e =
    let below : length bytes ≤ x = omega (arith, ltb-false x (0 + length bytes) e) in sym (get_or-eq_default bytes 0 below)

pub in_piece :
    {X : Type 0} (read : X → ℕ) (p : X) (bytes : List ℕ) (x : ℕ) → read p ≡ slice_index bytes x → option_map_or read (cond (nat_le 0 x && nat_lt x (0 + length bytes)) (Some p) None) 0 ≡ slice_index bytes x
in_piece read p bytes x same = rw (leb-zero x) (in_piece_by read p bytes x (nat_lt x (0 + length bytes)) same refl)

-- Four bytes of a segment from a place on, and the number that they are.
pub at_place :
    (bytes : List ℕ) (place i : ℕ) → i < 4 → slice_index (take 4 (drop place bytes)) i ≡ slice_index bytes (place + i)
at_place bytes place i h = get_or-take 4 (drop place bytes) i 0 h ∙ get_or-drop place bytes i 0

pub number_at :
    (bytes : List ℕ) (place : ℕ) → little (slice_index bytes place ∷ slice_index bytes
    (place + 1) ∷ slice_index bytes (place + 1 + 1) ∷ slice_index bytes (place + 1 + 1 + 1) ∷ []) ≡ from_le_bytes w32 (take 4 (drop place bytes))
number_at bytes place =
    let zeroth : place + 0 ≡ place = add-zero place in
    let second : place + 1 + 1 ≡ place + 2 = omega arith in
    let third : place + 1 + 1 + 1 ≡ place + 3 = omega arith in
    let b0 = at_place bytes place 0 (omega arith) ∙ ap (λ (n : ℕ). slice_index bytes n) zeroth in
    let b1 = at_place bytes place 1 (omega arith) in
    let b2 = at_place bytes place 2 (omega arith) ∙ ap (λ (n : ℕ). slice_index bytes n) (sym second) in
    let b3 = at_place bytes place 3 (omega arith) ∙ ap (λ (n : ℕ). slice_index bytes n) (sym third) in
    omega (arith, b0, b1, b2, b3)
