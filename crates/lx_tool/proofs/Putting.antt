-- How a text is put piece by piece.
use Rattle.std.proofs.Common.{◌≡◌, ℕ, ◌+◌, ◌-◌, ◌<◌, ◌≤◌, List, ◌++◌, length, take, drop, Option, Some, None, sym, ◌∙◌, ap, arith, append_assoc, length-drop}
use Rattle.std.proofs.lemmas.List.{drop-drop, take_all}
use Rattle.std.proofs.Math.Seq.{take-add}
use Rattle.std.specs.Io.KnownBytes.{Appends}

-- all but the rest of the text was put
pub record IsPutUpTo (before now : Option (List ℕ)) (text rest : List ℕ) : Type 0 where
  pub left : rest ≡ drop (length text - length rest) text
  pub no_longer : length rest ≤ length text
  pub put : Appends before now (take (length text - length rest) text)

pub appends_more : (before now next : Option (List ℕ)) (xs ys : List ℕ) → Appends before now xs → Appends now next ys → Appends before next (xs ++ ys)
appends_more None now next xs ys first then_ = tt
appends_more (Some xs0) None next xs ys first then_ = absurd first
appends_more (Some xs0) (Some ys0) None xs ys first then_ = absurd then_
appends_more (Some xs0) (Some ys0) (Some zs0) xs ys first then_ = then_ ∙ ap (λ (l : List ℕ). l ++ ys) first ∙ append_assoc xs0 xs ys

pub put_more : (before now next : Option (List ℕ)) (text rest : List ℕ) (n : ℕ) → IsPutUpTo before now text rest → n ≤ length rest → Appends now next (take n rest) → IsPutUpTo before next text (drop n rest)
put_more before now next text rest n so_far fits more =
    let m = length text - length rest in
    let size : length (drop n rest) ≡ length rest - n = length-drop n rest in
    let place : length text - length (drop n rest) ≡ m + n = omega (arith, so_far.no_longer, fits, size) in
    let piece : take (length text - length (drop n rest)) text ≡ take m text ++ take n rest = rw place (take-add m n text ∙ ap (λ (l : List ℕ). take m text ++ take n l) (sym so_far.left)) in
    record {
      left = rw place (ap (λ (l : List ℕ). drop n l) so_far.left ∙ drop-drop n m text);
      no_longer = omega (arith, so_far.no_longer, size);
      put = rw piece (appends_more before now next (take m text) (take n rest) so_far.put more);
    }

pub put_some : (before now : Option (List ℕ)) (text rest : List ℕ) → IsPutUpTo before now text rest → 0 < length rest → (n : ℕ) × (n < length text) × Appends before now (take n text)
put_some before now text rest so_far more = (length text - length rest, omega (arith, so_far.no_longer, more), so_far.put)

-- the same, of the rest as a slice up to its end
pub put_more_slice : (before now next : Option (List ℕ)) (text rest : List ℕ) (n : ℕ) → IsPutUpTo before now text rest → n ≤ length rest → Appends now next (take n rest)
    → IsPutUpTo before next text (take (length rest - n) (drop n rest))
put_more_slice before now next text rest n so_far fits more =
    let size : length (drop n rest) ≡ length rest - n = length-drop n rest in
    let to_end : take (length rest - n) (drop n rest) ≡ drop n rest = take_all _ _ (omega (arith, size)) in
    rw to_end (put_more before now next text rest n so_far fits more)
