-- Blocks that are read one after another: what they come to, after what came before.
use Rattle.std.proofs.Common.{◌≡◌, ◌≢◌, ℕ, zero, suc, ltb, ◌+◌, ◌-◌, ◌*◌, ◌<◌, ◌≤◌, Bool, true, false, List, [], ◌∷◌, ◌++◌, length, take, Result, Ok, Err, refl, sym, ap, ◌∙◌, arith, append_assoc, length-append, inl, inr}
use Rattle.std.specs.List.{repeat}
use Rattle.std.proofs.Math.Nat.{suc-mul}
use Rattle.std.proofs.lemmas.Bool.{cases_lt, ltb-false}
use Rattle.std.proofs.lemmas.List.{length-take}
use Rattle.lx_bytes.specs.Cursor.{Cursor, advance}
use Rattle.lx_bytes.specs.LittleEndian.{AreBytes}
use Rattle.lx_bytes.proofs.Numbers.{length-little_bytes}
use Rattle.obj_types.specs.declared.limits.TheConstants.{MAX_DATA}
use Rattle.obj_types.specs.declared.refusal.OmfRefusal.{OmfRefusal}
use Rattle.obj_types.specs.declared.refusal.OmfRefusal.TheVariants.{Short}
use Rattle.lx_types.specs.Answers.{◌>>=◌}
use Rattle.omf_fields.specs.Fields.{Reading, width, byte_at, bytes_at, number_at, items_at, list_at}
use Rattle.omf_fields.specs.Taking.{TakesBytes}
use Rattle.omf_fields.proofs.FieldLaws.{guard_ok}
use Rattle.omf_fields.proofs.SpanLaws.{bytes_after, ok_is}
use Rattle.omf_fields.proofs.ItemLaws.{list-next, list-none}
use Rattle.omf_model.specs.Blocks.{expanded, expanded_len}
use Rattle.omf_model.specs.Copies.{capped}
use Rattle.omf_model.specs.ReadBlocks.{Block, innermost, outer, joined, block_at}
use Rattle.omf_model.proofs.BlockLaws.{block_sound}
use Rattle.omf_data.specs.Expanding.{seen, block_len, block_data}

-- ---- for any view of blocks that goes on from what came before

abbrev pub through : {A B : Type 0} → (A → B) → Result A OmfRefusal → Result B OmfRefusal
through view read = read >>= λ x. Ok (view x)

module _ {V W : Type 0} (view : V → List Block → W) (push : V → Block → V) (law : (v : V) (b : Block) (bs : List Block) → view v (b ∷ bs) ≡ view (push v b) bs) (one : Cursor → Reading Block) where
  seen-cons : (v : V) (b : Block) (r : Reading (List Block)) → seen (view v) (r >>= λ others. Ok (b ∷ others.0, others.1)) ≡ seen (view (push v b)) r
  seen-cons v b (Ok bs) = λ i. Ok (law v b bs.0 i, bs.1)
  seen-cons v b (Err e) = refl

  through-cons : (v : V) (b : Block) (r : Result (List Block) OmfRefusal) → through (view v) (r >>= λ others. Ok (b ∷ others)) ≡ through (view (push v b)) r
  through-cons v b (Ok bs) = λ i. Ok (law v b bs i)
  through-cons v b (Err e) = refl

  pub items-next : (n : ℕ) (v : V) (c d : Cursor) (b : Block) → 0 < n → one c ≡ Ok (b, d) → seen (view v) (items_at one n c) ≡ seen (view (push v b)) (items_at one (n - 1) d)
  unfolding items_at
  items-next zero v c d b some e = absurd (omega (arith, some))
  items-next (suc n) v c d b some e =
      let less : suc n - 1 ≡ n = omega arith in
      rw (e, less) (seen-cons v b (items_at one n d))

  pub items-refused : (n : ℕ) (v : V) (c : Cursor) (e : OmfRefusal) → 0 < n → one c ≡ Err e → seen (view v) (items_at one n c) ≡ Err e
  unfolding items_at
  items-refused zero v c e some is = absurd (omega (arith, some))
  items-refused (suc n) v c e some is = rw is refl

  pub items-done : (n : ℕ) (v : V) (c : Cursor) → n ≡ 0 → seen (view v) (items_at one n c) ≡ Ok (view v [], c)
  unfolding items_at
  items-done zero v c none = refl
  items-done (suc n) v c none = absurd (omega (arith, none))

  pub list-more : TakesBytes one → (v : V) (c d : Cursor) (b : Block) → AreBytes c.left → c.left ≢ [] → one c ≡ Ok (b, d) → through (view v) (list_at one c) ≡ through (view (push v b)) (list_at one d)
  list-more takes v c d b bytes some e =
      ap (λ (r : Result (List Block) OmfRefusal). through (view v) r) (list-next one takes c bytes some ∙ rw e refl) ∙ through-cons v b (list_at one d)

  pub list-refused : TakesBytes one → (v : V) (c : Cursor) (e : OmfRefusal) → AreBytes c.left → c.left ≢ [] → one c ≡ Err e → through (view v) (list_at one c) ≡ Err e
  list-refused takes v c e bytes some is =
      let failed : Result (List Block) OmfRefusal = Err e in
      let there : list_at one c ≡ failed = list-next one takes c bytes some ∙ rw is refl in
      ap (λ (r : Result (List Block) OmfRefusal). through (view v) r) there

  pub list-done : (v : V) (c : Cursor) → c.left ≡ [] → through (view v) (list_at one c) ≡ Ok (view v [])
  list-done v c none = ap (λ (r : Result (List Block) OmfRefusal). through (view v) r) (list-none one c none)

-- what was read, where its view was
pub seen-ok : {A B : Type 0} (view : A → B) (read : Reading A) (y : B) (d : Cursor) → seen view read ≡ Ok (y, d) → (x : A) × (read ≡ Ok (x, d)) × (view x ≡ y)
seen-ok {A} {B} view (Ok x) y d e =
    let same = ok_is (view x.0, x.1) (y, d) e in
    (x.0, (λ i. Ok (x.0, (same i).1)), (λ i. (same i).0))
seen-ok view (Err f) y d e = absurd cc

pub seen-err : {A B : Type 0} (view : A → B) (read : Reading A) (e : OmfRefusal) → seen view read ≡ Err e → read ≡ Err e
seen-err view (Ok x) e is = absurd cc
seen-err view (Err f) e is = let same : f ≡ e = cc in (λ i. Err (same i))

-- ---- the length, with a cap

abbrev pub len_after : ℕ → List Block → ℕ
len_after len bs = capped (len + expanded_len (joined bs))

abbrev pub longer : ℕ → Block → ℕ
longer len b = capped (len + capped (block_len b))

joined-len : (b : Block) (bs : List Block) → expanded_len (joined (b ∷ bs)) ≡ block_len b + expanded_len (joined bs)
joined-len (innermost times content) bs = refl
joined-len (outer times inner) bs = refl

pub len-law : (len : ℕ) (b : Block) (bs : List Block) → len_after len (b ∷ bs) ≡ len_after (longer len b) bs
len-law len b bs = omega (arith, joined-len b bs)

pub cap-product : (t x : ℕ) → capped (t * capped x) ≡ capped (t * x)
cap-product t x =
    elim (cases_lt x (MAX_DATA + 1)) [
      | inl small ↦ ap (λ (n : ℕ). capped (t * n)) (let e : capped x ≡ x = omega (arith, small) in e)
      | inr large ↦ by large t
    ]
  where
    by : MAX_DATA + 1 ≤ x → (t : ℕ) → capped (t * capped x) ≡ capped (t * x)
    by large zero = omega arith
    by large (suc n) = omega (arith, large, suc-mul n (capped x), suc-mul n x)

-- ---- the data

abbrev pub data_after : List ℕ → List Block → List ℕ
data_after front bs = front ++ expanded (joined bs)

abbrev pub more_data : List ℕ → Block → List ℕ
more_data front b = front ++ block_data b

pub data-law : (front : List ℕ) (b : Block) (bs : List Block) → data_after front (b ∷ bs) ≡ data_after (more_data front b) bs
data-law front (innermost times content) bs = sym (append_assoc front (repeat times content) (expanded (joined bs)))
data-law front (outer times inner) bs = sym (append_assoc front (repeat times (expanded inner)) (expanded (joined bs)))

-- ---- a block

-- a block takes a byte at least
pub block-takes : (left : ℕ) (wide : Bool) → TakesBytes (block_at left wide)
block-takes left wide c b d bytes e =
    let t = (block_sound wide left c b d bytes e).0 in
    let long : length c.left ≡ length t.front + length d.left = ap (λ (ys : List ℕ). length ys) t.joined ∙ length-append t.front d.left in
    let split : length t.front ≡ length t.so.front + length t.so.back = ap (λ (ys : List ℕ). length ys) t.so.joined ∙ length-append t.so.front t.so.back in
    let times : length t.so.front ≡ width wide = ap (λ (ys : List ℕ). length ys) t.so.first_so.1 ∙ length-little_bytes (width wide) _ in
    let some : 2 ≤ width wide = elim wide as (λ w. 2 ≤ width w) [ true ↦ omega arith | false ↦ omega arith ] in
    (omega (arith, long, split, times, some), bytes_after _ c d t bytes)

-- a block of blocks
pub outer-is : (left : ℕ) (wide : Bool) (times count : ℕ) (c c1 c2 : Cursor) → 0 < left → number_at (width wide) c ≡ Ok (times, c1) → number_at 2 c1 ≡ Ok (count, c2) → 0 < count
    → block_at left wide c ≡ (items_at (block_at (left - 1) wide) count c2 >>= λ inner. Ok (outer times (joined inner.0), inner.1))
unfolding block_at
outer-is zero wide times count c c1 c2 deep a b some = absurd (omega (arith, deep))
outer-is (suc left) wide times zero c c1 c2 deep a b some = absurd (omega (arith, some))
outer-is (suc left) wide times (suc more) c c1 c2 deep a b some =
    let less : suc left - 1 ≡ left = omega arith in
    rw (a, b, less) refl

-- ---- an innermost block

innermost-is : (left : ℕ) (wide : Bool) (times count : ℕ) (c c1 c2 : Cursor) → 0 < left → number_at (width wide) c ≡ Ok (times, c1) → number_at 2 c1 ≡ Ok (count, c2) → count ≡ 0
    → block_at left wide c ≡ (byte_at c2 >>= λ len. bytes_at len.0 len.1 >>= λ content. Ok (innermost times content.0, content.1))
unfolding block_at
innermost-is zero wide times count c c1 c2 deep a b none = absurd (omega (arith, deep))
innermost-is (suc left) wide times zero c c1 c2 deep a b none = rw (a, b) refl
innermost-is (suc left) wide times (suc more) c c1 c2 deep a b none = absurd (omega (arith, none))

-- seen by a view
module _ {V : Type 0} (view : Block → V) (left : ℕ) (wide : Bool) (times count : ℕ) (c c1 c2 : Cursor) (deep : 0 < left) (first : number_at (width wide) c ≡ Ok (times, c1)) (second : number_at 2 c1 ≡ Ok (count, c2)) (none : count ≡ 0) where
  pub no-len : (f : OmfRefusal) → byte_at c2 ≡ Err f → seen view (block_at left wide c) ≡ Err f
  no-len f e = rw (innermost-is left wide times count c c1 c2 deep first second none, e) refl

  pub no-content : (len : ℕ) (c3 : Cursor) (f : OmfRefusal) → byte_at c2 ≡ Ok (len, c3) → bytes_at len c3 ≡ Err f → seen view (block_at left wide c) ≡ Err f
  no-content len c3 f a e = rw (innermost-is left wide times count c c1 c2 deep first second none, a, e) refl

  pub innermost-seen : (len : ℕ) (c3 d : Cursor) (content : List ℕ) → byte_at c2 ≡ Ok (len, c3) → bytes_at len c3 ≡ Ok (content, d) → seen view (block_at left wide c) ≡ Ok (view (innermost times content), d)
  innermost-seen len c3 d content a b = rw (innermost-is left wide times count c c1 c2 deep first second none, a, b) refl

pub bytes-long : (n : ℕ) (c d : Cursor) (x : List ℕ) → bytes_at n c ≡ Ok (x, d) → length x ≡ n
bytes-long n c d x e =
    let g = guard_ok (ltb (length c.left) n) (Short c.at) (take n c.left, advance n c) (x, d) e in
    let long : length (take n c.left) ≡ n = omega (arith, ltb-false _ _ g.0, length-take n c.left) in
    let same : length (take n c.left) ≡ length x = ap (λ (p : List ℕ × Cursor). length p.0) g.1 in
    omega (arith, long, same)
