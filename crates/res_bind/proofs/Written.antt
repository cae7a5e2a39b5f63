-- Numbers in a file, and tables after what was written before.
use Rattle.std.proofs.Common.{◌≡◌, ℕ, ◌+◌, ◌-◌, List, [], ◌∷◌, ◌++◌, length, take, drop, sym, ap, ◌∙◌, append_assoc, append-nil, arith}
use Rattle.std.proofs.lemmas.List.{take_rest, drop-drop, length-drop}
use Rattle.byteorder.specs.Endian as order
use Rattle.lx_bytes.specs.LittleEndian.{little_bytes}
use Rattle.lx_types.specs.Parts.{span}
use Rattle.res_model.specs.Bound.{with_number}
use Rattle.res_bind.proofs.Sizes.{drop_all}
use borrow.Rule.Slice.PartMut.{put_mid, post_of}

same_four : {a b c d a' b' c' d' : ℕ} → a ≡ a' → b ≡ b' → c ≡ c' → d ≡ d' → (a ∷ b ∷ c ∷ d ∷ []) ≡ (a' ∷ b' ∷ c' ∷ d' ∷ [])
same_four p q r s = cc

four_bytes : (x : ℕ) → order.little_bytes 4 x ≡ little_bytes 4 x
four_bytes x = same_four (omega arith) (omega arith) (omega arith) (omega arith)

post_none : (at : ℕ) (file : List ℕ) → post_of at (length file - at) file ≡ []
post_none at file = drop_all (drop at file) (length file - at) (omega (arith, length-drop at file))

pub set_is : (at v : ℕ) (file buf : List ℕ) → buf ≡ order.little_bytes 4 v ++ drop 4 (take (length file - at) (drop at file)) → put_mid at (length file - at) file buf ≡ with_number at v file
unfolding with_number
set_is at v file buf is =
    let rest = drop (at + 4) file in
    let tail : drop 4 (take (length file - at) (drop at file)) ≡ rest = ap (λ (xs : List ℕ). drop 4 xs) (take_rest file at) ∙ drop-drop 4 at file in
    let same : buf ≡ little_bytes 4 v ++ rest = is ∙ ap (λ (x : List ℕ). x ++ drop 4 (take (length file - at) (drop at file))) (four_bytes v) ∙ ap (λ (t : List ℕ). little_bytes 4 v ++ t) tail in
    ap (λ (x : List ℕ). take at file ++ (x ++ post_of at (length file - at) file)) same
    ∙ ap (λ (p : List ℕ). take at file ++ ((little_bytes 4 v ++ rest) ++ p)) (post_none at file)
    ∙ ap (λ (t : List ℕ). take at file ++ t) (append-nil (little_bytes 4 v ++ rest))
    ∙ sym (append_assoc (take at file) (little_bytes 4 v) rest)

-- some bytes of a table, by its place and by the header's field
pub old_part : (file : List ℕ) (place at len m : ℕ) → place ≡ at → len ≡ m → take len (drop place file) ≡ span file at (at + m)
old_part file place at len m p q =
    let n : len ≡ at + m - at = omega (arith, q) in
    ap (λ (t : ℕ). take len (drop t file)) p ∙ ap (λ (k : ℕ). take k (drop at file)) n

-- old entries and new ones after what was written
pub joined : (out part entry middle after old new : List ℕ) → middle ≡ out ++ part → after ≡ middle ++ entry → part ≡ old → entry ≡ new → after ≡ out ++ (old ++ new)
joined out part entry middle after old new p q r s =
    q ∙ ap (λ (xs : List ℕ). xs ++ entry) (p ∙ ap (λ (b : List ℕ). out ++ b) r) ∙ ap (λ (e : List ℕ). (out ++ old) ++ e) s ∙ append_assoc out old new
