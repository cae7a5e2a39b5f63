-- The text of an object's bytes, line by line.
use Rattle.std.proofs.Common.{◌≡◌, ℕ, ◌+◌, ◌-◌, ◌*◌, ◌≤◌, min, List, [], ◌∷◌, ◌++◌, length, take, drop, sym, ◌∙◌, ap, refl, arith, append_assoc, add-one, zero-add, length-drop}
use Rattle.std.proofs.lemmas.List.{take_min, flat_map_more}
use Rattle.std.specs.List.{flat_map, range_with_len}
use Rattle.lx_types.proofs.Lists.{range-push}
use Rattle.answer_model.specs.ImageText.{line, line_of}

-- a piece that ends with the list at the latest
pub piece : (bytes : List ℕ) (start end : ℕ) → end ≡ min (start + 16) (length bytes) → start ≤ length bytes → take (end - start) (drop start bytes) ≡ take 16 (drop start bytes)
piece bytes start end ends within =
    let cut : end - start ≡ min 16 (length (drop start bytes)) = omega (arith, length-drop start bytes) in
    rw cut (take_min 16 (drop start bytes))

-- one line more, of the lines f 0, f 1 and so on
lines_more : (f : ℕ → List ℕ) (number : ℕ) (text : List ℕ) → text ≡ flat_map f (range_with_len 0 number) → text ++ f number ≡ flat_map f (range_with_len 0 (number + 1))
lines_more f number text so_far =
    ap (λ (l : List ℕ). l ++ f number) so_far
    ∙ flat_map_more f [] (range_with_len 0 number) number
    ∙ ap (λ (l : List ℕ). flat_map f l) (sym (rw add-one (range-push 0 number ∙ ap (λ (k : ℕ). range_with_len 0 number ++ k ∷ []) (zero-add number))))

-- the same after other text
pub lines_after : (f : ℕ → List ℕ) (number : ℕ) (start text : List ℕ) → text ≡ start ++ flat_map f (range_with_len 0 number) → text ++ f number ≡ start ++ flat_map f (range_with_len 0 (number + 1))
lines_after f number start text so_far =
    let lines : List ℕ = flat_map f (range_with_len 0 number) in
    ap (λ (l : List ℕ). l ++ f number) so_far ∙ append_assoc start lines (f number) ∙ ap (λ (l : List ℕ). start ++ l) (lines_more f number lines refl)

pub line_piece : (base number end : ℕ) (bytes : List ℕ) → end ≡ min (16 * number + 16) (length bytes) → 16 * number ≤ length bytes
    → line (base + 16 * number) (take (end - 16 * number) (drop (16 * number) bytes)) ≡ line_of base bytes number
line_piece base number end bytes ends within = ap (λ (l : List ℕ). line (base + 16 * number) l) (piece bytes (16 * number) end ends within)
