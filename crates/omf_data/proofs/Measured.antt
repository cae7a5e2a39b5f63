-- How long the data of blocks is.
use Rattle.std.proofs.Common.{◌≡◌, ℕ, ◌+◌, ◌-◌, ◌*◌, ◌<◌, ◌≤◌, ◌≢◌, Bool, List, [], length, Result, Ok, Err, refl, sym, ap, ◌∙◌, arith}
use Rattle.lx_bytes.specs.Cursor.{Cursor}
use Rattle.lx_bytes.specs.LittleEndian.{AreBytes}
use Rattle.obj_types.specs.declared.limits.TheConstants.{MAX_DATA, MAX_DEPTH}
use Rattle.obj_types.specs.declared.refusal.OmfRefusal.{OmfRefusal}
use Rattle.lx_types.specs.Answers.{◌>>=◌}
use Rattle.omf_fields.specs.Fields.{Reading, width, number_at, items_at, list_at}
use Rattle.omf_model.specs.Blocks.{expanded_len}
use Rattle.omf_model.specs.Copies.{capped}
use Rattle.omf_model.specs.ReadBlocks.{Block, joined, block_at, blocks_at}
use Rattle.omf_data.specs.Expanding.{seen, block_len, measured_at, counted_at}
use Rattle.omf_data.proofs.Onto.{through, items-next, items-refused, items-done, seen-ok, seen-err, len_after, longer, len-law, cap-product, outer-is, block-takes, list-more, list-refused, list-done}

-- the length of so many blocks, after that of the blocks before
abbrev pub lens_at : ℕ → Bool → ℕ → ℕ → Cursor → Reading ℕ
lens_at left wide count len c = seen (len_after len) (items_at (block_at left wide) count c)

pub next_len : (left : ℕ) (wide : Bool) (more len x : ℕ) (c d : Cursor) → 0 < more → measured_at left wide c ≡ Ok (x, d) → lens_at left wide more len c ≡ lens_at left wide (more - 1) (capped (len + x)) d
next_len left wide more len x c d some e =
    let b = seen-ok (λ (b : Block). capped (block_len b)) (block_at left wide c) x d e in
    items-next len_after longer len-law (block_at left wide) more len c d b.0 some b.1
    ∙ ap (λ (n : ℕ). lens_at left wide (more - 1) (capped (len + n)) d) b.2

pub refused_len : (left : ℕ) (wide : Bool) (more len : ℕ) (c : Cursor) (e : OmfRefusal) → 0 < more → measured_at left wide c ≡ Err e → lens_at left wide more len c ≡ Err e
refused_len left wide more len c e some is =
    items-refused len_after longer len-law (block_at left wide) more len c e some (seen-err (λ (b : Block). capped (block_len b)) (block_at left wide c) e is)

module _ (left : ℕ) (wide : Bool) (times count : ℕ) (c c1 c2 : Cursor) (deep : 0 < left) (first : number_at (width wide) c ≡ Ok (times, c1)) (second : number_at 2 c1 ≡ Ok (count, c2)) (some : 0 < count) where
  pub outer_measured : (len : ℕ) (d : Cursor) (more : ℕ) → more ≡ 0 → lens_at (left - 1) wide more len d ≡ lens_at (left - 1) wide count 0 c2 → measured_at left wide c ≡ Ok (capped (times * len), d)
  outer_measured len d more none so =
      let all : lens_at (left - 1) wide count 0 c2 ≡ Ok (capped (len + 0), d) = sym so ∙ items-done len_after longer len-law (block_at (left - 1) wide) more len d none in
      let b = seen-ok (len_after 0) (items_at (block_at (left - 1) wide) count c2) (capped (len + 0)) d all in
      let same : capped (expanded_len (joined b.0)) ≡ capped len = omega (arith, b.2) in
      rw (outer-is left wide times count c c1 c2 deep first second some, b.1)
      (λ i. Ok ((sym (cap-product times (expanded_len (joined b.0))) ∙ ap (λ (n : ℕ). capped (times * n)) same ∙ cap-product times len) i, d))

  pub outer_refused : (e : OmfRefusal) → lens_at (left - 1) wide count 0 c2 ≡ Err e → measured_at left wide c ≡ Err e
  outer_refused e is =
      rw (outer-is left wide times count c c1 c2 deep first second some, seen-err (len_after 0) (items_at (block_at (left - 1) wide) count c2) e is) refl

-- ---- up to the end

-- the length of all blocks, after that of the blocks before
abbrev pub total_at : Bool → ℕ → Cursor → Result ℕ OmfRefusal
total_at wide len c = through (len_after len) (list_at (block_at MAX_DEPTH wide) c)

counted-through : (wide : Bool) (c : Cursor) → counted_at wide c ≡ total_at wide 0 c
unfolding blocks_at
counted-through wide c = by (list_at (block_at MAX_DEPTH wide) c)
  where
    by : (r : Result (List Block) OmfRefusal) → (r >>= (λ bs. Ok (joined bs)) >>= λ blocks. Ok (capped (expanded_len blocks))) ≡ through (len_after 0) r
    by (Ok bs) = let e : capped (expanded_len (joined bs)) ≡ capped (0 + expanded_len (joined bs)) = omega arith in (λ i. Ok (e i))
    by (Err e) = refl

pub next_total : (wide : Bool) (len x : ℕ) (c d : Cursor) → AreBytes c.left → c.left ≢ [] → measured_at MAX_DEPTH wide c ≡ Ok (x, d) → total_at wide len c ≡ total_at wide (capped (len + x)) d
next_total wide len x c d bytes some e =
    let b = seen-ok (λ (b : Block). capped (block_len b)) (block_at MAX_DEPTH wide c) x d e in
    list-more len_after longer len-law (block_at MAX_DEPTH wide) (block-takes MAX_DEPTH wide) len c d b.0 bytes some b.1
    ∙ ap (λ (n : ℕ). total_at wide (capped (len + n)) d) b.2

pub shorter : (wide : Bool) (x : ℕ) (c d : Cursor) → AreBytes c.left → measured_at MAX_DEPTH wide c ≡ Ok (x, d) → length d.left < length c.left
shorter wide x c d bytes e =
    let b = seen-ok (λ (b : Block). capped (block_len b)) (block_at MAX_DEPTH wide c) x d e in
    (block-takes MAX_DEPTH wide c b.0 d bytes b.1).0

pub refused_total : (wide : Bool) (len : ℕ) (start c : Cursor) (e : OmfRefusal) → total_at wide len c ≡ total_at wide 0 start → AreBytes c.left → c.left ≢ [] → measured_at MAX_DEPTH wide c ≡ Err e → counted_at wide start ≡ Err e
refused_total wide len start c e so bytes some is =
    counted-through wide start ∙ sym so
    ∙ list-refused len_after longer len-law (block_at MAX_DEPTH wide) (block-takes MAX_DEPTH wide) len c e bytes some (seen-err (λ (b : Block). capped (block_len b)) (block_at MAX_DEPTH wide c) e is)

pub whole_total : (wide : Bool) (len : ℕ) (start c : Cursor) → total_at wide len c ≡ total_at wide 0 start → c.left ≡ [] → len ≤ MAX_DATA + 1 → counted_at wide start ≡ Ok len
whole_total wide len start c so none few =
    let e : capped (len + 0) ≡ len = omega (arith, few) in
    counted-through wide start ∙ sym so ∙ list-done len_after longer len-law (block_at MAX_DEPTH wide) len c none ∙ (λ i. Ok (e i))
