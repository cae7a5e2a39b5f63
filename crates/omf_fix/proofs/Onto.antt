-- Blocks that are read one after another: what is found in them, after what came before.
use Rattle.std.proofs.Common.{◌≡◌, ℕ, ◌+◌, ◌-◌, ◌*◌, Bool, true, false, cond, List, [], ◌∷◌, ◌++◌, length, Ok, sym, ap, ◌∙◌, arith, append_assoc, length-append}
use Rattle.std.proofs.lemmas.List.{append-nil, map-append}
use Rattle.std.proofs.Math.Nat.{add_assoc}
use Rattle.lx_bytes.specs.Cursor.{Cursor}
use Rattle.lx_bytes.proofs.Numbers.{length-little_bytes}
use Rattle.omf_fields.specs.Fields.{width}
use Rattle.omf_model.specs.Blocks.{block_bytes, count_of, expanded_len, contents}
use Rattle.omf_model.specs.ReadBlocks.{Block, innermost, outer, joined, block_at}
use Rattle.omf_model.proofs.BlockLaws.{block_sound}
use Rattle.omf_model.specs.Copies.{repeated, place_in, block_copies}
use Rattle.omf_data.proofs.Onto.{block-takes}
use Rattle.omf_fix.specs.Found.{Found, live_times, with_block, IsInContents}
use Rattle.omf_fix.proofs.Shifted.{moved, moved-moved, repeated-never}

-- ---- the position

-- where a block ends
abbrev pub block_end : Bool → ℕ → Block → ℕ
block_end wide at (innermost times content) = at + width wide + 3 + length content
block_end wide at (outer times inner) = at + width wide + 2 + length (block_bytes wide inner)

-- the place, and what was found
abbrev pub Placed : Type 0
Placed = ℕ × Found

abbrev pub if_live : {A : Type 0} → Bool → A → A → A
if_live live x y = cond live x y

abbrev pub found_after : ℕ → Bool → Bool → Placed → List Block → Found
found_after number wide live v bs = (
  v.1.0 + if_live live (expanded_len (joined bs)) 0,
  v.1.1 ++ moved v.1.0 (if_live live (block_copies wide v.0 (joined bs) number) []),
  v.1.2 ++ contents wide v.0 (joined bs),
)

abbrev pub more_found : ℕ → Bool → Bool → Placed → Block → Placed
more_found number wide live v b = (block_end wide v.0 b, with_block number wide live v.0 v.1 b)

len-step : (live : Bool) (len times unit rest : ℕ) → len + if_live live (times * unit + rest) 0 ≡ len + live_times live times * unit + if_live live rest 0
len-step true len times unit rest = sym (add_assoc len (times * unit) rest)
len-step false len times unit rest = omega arith

copies-step : (live : Bool) (front : List ℕ) (len times unit : ℕ) (own rest : List ℕ)
    → front ++ moved len (if_live live (repeated times unit own ++ moved (times * unit) rest) []) ≡ (front ++ moved len (repeated (live_times live times) unit own)) ++ moved (len + live_times live times * unit) (if_live live rest [])
copies-step true front len times unit own rest =
    ap (λ (xs : List ℕ). front ++ xs) (map-append (λ x. len + x) (repeated times unit own) (moved (times * unit) rest) ∙ ap (λ (xs : List ℕ). moved len (repeated times unit own) ++ xs) (moved-moved len (times * unit) rest))
    ∙ sym (append_assoc front (moved len (repeated times unit own)) (moved (len + times * unit) rest))
copies-step false front len times unit own rest =
    sym (append-nil (front ++ [])) ∙ ap (λ (xs : List ℕ). (front ++ moved len xs) ++ []) (sym (repeated-never unit own))

pub found-law : (number : ℕ) (wide live : Bool) (v : Placed) (b : Block) (bs : List Block) → found_after number wide live v (b ∷ bs) ≡ found_after number wide live (more_found number wide live v b) bs
found-law number wide live v (innermost times content) bs =
    let first : ℕ = v.0 + width wide + 3 in
    let past : ℕ = first + length content in
    let k = sym (append_assoc v.1.2 ((first, past) ∷ []) (contents wide past (joined bs))) in
    λ i. (len-step live v.1.0 times (length content) (expanded_len (joined bs)) i, copies-step live v.1.1 v.1.0 times (length content) (place_in first (length content) number) (block_copies wide past (joined bs) number) i, k i)
found-law number wide live v (outer times inner) bs =
    let first : ℕ = v.0 + width wide + 2 in
    let past : ℕ = first + length (block_bytes wide inner) in
    let k = sym (append_assoc v.1.2 (contents wide first inner) (contents wide past (joined bs))) in
    λ i. (len-step live v.1.0 times (expanded_len inner) (expanded_len (joined bs)) i, copies-step live v.1.1 v.1.0 times (expanded_len inner) (block_copies wide first inner number) (block_copies wide past (joined bs) number) i, k i)

-- ---- a block

abbrev rest_bytes : Bool → Block → List ℕ
rest_bytes wide (innermost times content) = length content ∷ content
rest_bytes wide (outer times inner) = block_bytes wide inner

abbrev blocks_of : Block → ℕ
blocks_of (innermost times content) = 0
blocks_of (outer times inner) = count_of inner

-- what a block's reading passes over
pub block-moves : (left : ℕ) (wide : Bool) (c d : Cursor) (b : Block) → IsInContents c → block_at left wide c ≡ Ok (b, d) → (block_end wide (c.at - 3) b ≡ d.at - 3) × IsInContents d
block-moves left wide c d b ok e =
    let t = (block_sound wide left c b d ok.bytes e).0 in
    let s = t.so in
    let u = s.second_so in
    let long : length t.front ≡ length s.front + length s.back = ap (λ (ys : List ℕ). length ys) s.joined ∙ length-append s.front s.back in
    let long2 : length s.back ≡ length u.front + length u.back = ap (λ (ys : List ℕ). length ys) u.joined ∙ length-append u.front u.back in
    let times : length s.front ≡ width wide = ap (λ (ys : List ℕ). length ys) s.first_so.1 ∙ length-little_bytes (width wide) _ in
    let count : length u.front ≡ 2 = ap (λ (ys : List ℕ). length ys) u.first_so.1 ∙ length-little_bytes 2 (blocks_of b) in
    let moved : d.at ≡ c.at + (width wide + (2 + length u.back)) = omega (arith, t.moved, long, long2, times, count) in
    (by b u.back u.second_so moved, record { after = omega (arith, moved, ok.after); bytes = (block-takes left wide c b d ok.bytes e).1 })
  where
    by : (b : Block) (back : List ℕ) → back ≡ rest_bytes wide b → d.at ≡ c.at + (width wide + (2 + length back)) → block_end wide (c.at - 3) b ≡ d.at - 3
    by (innermost times content) back so moved = let long : length back ≡ 1 + length content = ap (λ (ys : List ℕ). length ys) so ∙ omega arith in omega (arith, moved, long, ok.after)
    by (outer times inner) back so moved = let long : length back ≡ length (block_bytes wide inner) = ap (λ (ys : List ℕ). length ys) so in omega (arith, moved, long, ok.after)
