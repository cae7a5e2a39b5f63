-- The blocks of LIDATA: what is read is spelled so, and what is spelled so is read. "A2h LIDATA".
use Rattle.std.proofs.Common.{◌≡◌, ℕ, zero, suc, ◌+◌, ◌^◌, ◌<◌, ◌≤◌, Bool, true, false, ltb, List, [], ◌∷◌, ◌++◌, length, take, Ok, refl, sym, ap, subst, ◌∙◌, arith, append_assoc, length-append}
use Rattle.std.specs.List.{AllByRecursion}
use Rattle.std.proofs.lemmas.Bool.{ltb-false, le-ltb}
use Rattle.std.proofs.lemmas.List.{take_at, drop_at, take-append-drop, length-take}
use Rattle.lx_bytes.specs.Cursor.{Cursor, advance}
use Rattle.lx_bytes.specs.LittleEndian.{AreBytes, little_bytes}
use Rattle.lx_bytes.proofs.Numbers.{length-little_bytes}
use Rattle.obj_types.specs.declared.limits.TheConstants.{MAX_DEPTH}
use Rattle.obj_types.specs.declared.refusal.OmfRefusal.TheVariants.{Short}
use Rattle.omf_fields.specs.Fields.{Reading, width, bytes_at, number_at, items_at, list_at}
use Rattle.omf_model.specs.Blocks.{Blocks, none, bytes, nested, count_of, depth_of, head_bytes, block_bytes, FitBlocks}
use Rattle.omf_model.specs.ReadBlocks.{Block, innermost, outer, joined, block_rest, block_at, blocks_at, blocks_in}
use Rattle.omf_fields.specs.Forms.{Form, ◌then◌, each, byte, number}
use Rattle.omf_model.specs.Good.{GoodBlocks}
use Rattle.omf_fields.proofs.SpanLaws.{Spans, cursor_is, then_spans, then_splits, spans_nothing, nothing_spans, Sound, Complete, given, ok_is, bind_ok, step}
use Rattle.omf_fields.proofs.FieldLaws.{guard_ok, number_sound, number_complete, byte_sound, byte_complete}
use Rattle.omf_fields.proofs.ListLaws.{OneByte, list_sound, list_complete}

-- ---- a list of so many items

pub items_sound : {A : Type 0} (read : Cursor → Reading A) (form : A → Form) (P : A → Type 0) → Sound read form P → (n : ℕ) (c : Cursor) (xs : List A) (d : Cursor) →
    AreBytes c.left → items_at read n c ≡ Ok (xs, d) → Spans (each form xs) c d × AllByRecursion P xs × (length xs ≡ n)
unfolding items_at
items_sound {A} read form P sound zero c xs d bs e =
    subst (λ (q : List A × Cursor). Spans (each form q.0) c q.1 × AllByRecursion P q.0 × (length q.0 ≡ 0)) (ok_is ([], c) (xs, d) e) (spans_nothing c, tt, refl)
items_sound {A} read form P sound (suc n) c xs d bs e =
    step read form P sound c _ (xs, d) bs e λ x c1 t1 g1 b1 e1.
    let a = bind_ok (items_at read n c1) _ (xs, d) e1 in
    let rest = items_sound read form P sound n c1 a.0.0 a.0.1 b1 a.1 in
    subst (λ (q : List A × Cursor). Spans (each form q.0) c q.1 × AllByRecursion P q.0 × (length q.0 ≡ suc n)) (ok_is (x ∷ a.0.0, a.0.1) (xs, d) a.2)
    (then_spans (form x) (each form a.0.0) c c1 a.0.1 t1 rest.0, (g1, rest.1), ap suc rest.2)

pub items_complete : {A : Type 0} (read : Cursor → Reading A) (form : A → Form) (P : A → Type 0) →
    Complete read form P → (xs : List A) (c d : Cursor) → Spans (each form xs) c d → AllByRecursion P xs → items_at read (length xs) c ≡ Ok (xs, d)
unfolding items_at
items_complete {A} read form P complete [] c d t ok = ap (λ (k : Cursor). given {A = List A} [] k) (nothing_spans c d t)
items_complete {A} read form P complete (x ∷ xs) c d t ok =
    let s = then_splits (form x) (each form xs) c d t in
    rw (complete c x s.0 s.1 ok.0, items_complete read form P complete xs s.0 d s.2 ok.1) refl

-- ---- bytes

abbrev exactly : List ℕ → Form
exactly content bs = bs ≡ content

bytes_sound : (n : ℕ) → Sound (bytes_at n) exactly (λ content. length content ≡ n)
bytes_sound n c x d bs e =
    let g = guard_ok (ltb (length c.left) n) (Short c.at) (take n c.left, advance n c) (x, d) e in
    let len : length (take n c.left) ≡ n = omega (arith, ltb-false _ _ g.0, length-take n c.left) in
    subst (λ (p : List ℕ × Cursor). Spans (exactly p.0) c p.1 × (length p.0 ≡ n)) g.1
    (record { front = take n c.left; joined = sym (take-append-drop n c.left); moved = ap (λ (k : ℕ). c.at + k) (sym len); so = refl }, len)

bytes_complete : (n : ℕ) → Complete (bytes_at n) exactly (λ content. length content ≡ n)
bytes_complete n c x d t ok =
    let len : length t.front ≡ n = ap (λ (xs : List ℕ). length xs) t.so ∙ ok in
    let long : ltb (length (t.front ++ d.left)) n ≡ false = le-ltb _ _ (omega (arith, length-append t.front d.left, len)) in
    rw (t.joined, long, take_at t.front d.left n len, drop_at t.front d.left n len, t.so) (ap (λ (k : Cursor). given x k) (cursor_is d (c.at + n) d.left (omega (arith, t.moved, len)) refl))

-- ---- a block

abbrev rest_bytes : Bool → Block → List ℕ
rest_bytes wide (innermost times content) = length content ∷ content
rest_bytes wide (outer times inner) = block_bytes wide inner

abbrev times_of : Block → ℕ
times_of (innermost times content) = times
times_of (outer times inner) = times

abbrev blocks_of : Block → ℕ
blocks_of (innermost times content) = 0
blocks_of (outer times inner) = count_of inner

abbrev block_form : Bool → Block → Form
block_form wide b = number (width wide) (times_of b) then number 2 (blocks_of b) then exactly (rest_bytes wide b)

-- within so many depths
abbrev GoodBlock : Bool → ℕ → Block → Type 0
GoodBlock wide zero b = ⊥
GoodBlock wide (suc left) (innermost times content) = length content < 256
GoodBlock wide (suc left) (outer times inner) = (1 ≤ count_of inner) × FitBlocks wide inner × (depth_of inner ≤ left)

block_one : (wide : Bool) → OneByte (block_form wide)
block_one wide b bs h =
    let front : length h.front ≡ width wide = ap (λ (xs : List ℕ). length xs) h.first_so.1 ∙ length-little_bytes (width wide) (times_of b) in
    let all : length bs ≡ length h.front + length h.back = ap (λ (xs : List ℕ). length xs) h.joined ∙ length-append h.front h.back in
    let some : 2 ≤ width wide = elim wide as (λ w. 2 ≤ width w) [ true ↦ omega arith | false ↦ omega arith ] in
    omega (arith, front, all, some)

-- ---- blocks, one after another

count-joined : (bs : List Block) → count_of (joined bs) ≡ length bs
count-joined [] = refl
count-joined (innermost times content ∷ rest) = omega (arith, count-joined rest)
count-joined (outer times inner ∷ rest) = omega (arith, count-joined rest)

fit_number : (n x : ℕ) (bs : List ℕ) → number n x bs → bs ≡ little_bytes n x
fit_number n x bs h = h.1

-- a block's bytes as one list
whole_block : (wide : Bool) (b : Block) (bs : List ℕ) → block_form wide b bs → bs ≡ head_bytes wide (times_of b) (blocks_of b) ++ rest_bytes wide b
whole_block wide b bs h =
    h.joined ∙ (λ i. h.first_so.1 i ++ (h.second_so.joined ∙ (λ j. h.second_so.first_so.1 j ++ h.second_so.second_so j)) i)
    ∙ sym (append_assoc (little_bytes (width wide) (times_of b)) (little_bytes 2 (blocks_of b)) (rest_bytes wide b))

bytes-joined : (wide : Bool) (bs : List Block) (all : List ℕ) → each (block_form wide) bs all → all ≡ block_bytes wide (joined bs)
bytes-joined wide [] all h = h
bytes-joined wide (innermost times content ∷ rest) all h =
    let rest_is = bytes-joined wide rest h.back h.second_so in
    let first = whole_block wide (innermost times content) h.front h.first_so in
    h.joined ∙ (λ i. first i ++ rest_is i)
bytes-joined wide (outer times inner ∷ rest) all h =
    let rest_is = bytes-joined wide rest h.back h.second_so in
    let first = whole_block wide (outer times inner) h.front h.first_so in
    h.joined ∙ (λ i. first i ++ rest_is i)

-- the repeat counts and the block counts that the forms have fit
abbrev Fitting : Bool → ℕ → Block → Type 0
Fitting wide left b = GoodBlock wide left b × (times_of b < 256 ^ width wide) × (blocks_of b < 2 ^ 16)

each_fits : (wide : Bool) (left : ℕ) (bs : List Block) (all : List ℕ) → each (block_form wide) bs all → AllByRecursion (GoodBlock wide left) bs → AllByRecursion (Fitting wide left) bs
each_fits wide left [] all h ok = tt
each_fits wide left (b ∷ bs) all h ok = ((ok.0, h.first_so.first_so.0, h.first_so.second_so.first_so.0), each_fits wide left bs h.back h.second_so ok.1)

fit-joined : (wide : Bool) (left : ℕ) (bs : List Block) → AllByRecursion (Fitting wide left) bs → FitBlocks wide (joined bs)
fit-joined wide left [] ok = tt
fit-joined wide zero (b ∷ bs) ok = absurd ok.0.0
fit-joined wide (suc left) (innermost times content ∷ bs) ok = (ok.0.1, ok.0.0, fit-joined wide (suc left) bs ok.1)
fit-joined wide (suc left) (outer times inner ∷ bs) ok = (ok.0.1, ok.0.0.0, ok.0.2, ok.0.0.1, fit-joined wide (suc left) bs ok.1)

depth-joined : (wide : Bool) (left : ℕ) (bs : List Block) → AllByRecursion (GoodBlock wide left) bs → depth_of (joined bs) ≤ left
depth-joined wide left [] ok = omega arith
depth-joined wide zero (b ∷ bs) ok = absurd ok.0
depth-joined wide (suc left) (innermost times content ∷ bs) ok = omega (arith, depth-joined wide (suc left) bs ok.1)
depth-joined wide (suc left) (outer times inner ∷ bs) ok = omega (arith, ok.0.2, depth-joined wide (suc left) bs ok.1)

-- ---- what is read

rest_sound : (wide : Bool) (left : ℕ) (read : Cursor → Reading Block) → Sound read (block_form wide) (GoodBlock wide left) →
    (times count : ℕ) (c : Cursor) (b : Block) (d : Cursor) → AreBytes c.left → block_rest read times count c ≡ Ok (b, d)
    → Spans (exactly (rest_bytes wide b)) c d × GoodBlock wide (suc left) b × (times ≡ times_of b) × (count ≡ blocks_of b)
rest_sound wide left read sound times zero c b d bs e =
    step _ _ _ byte_sound c _ (b, d) bs e λ len c1 t1 f1 b1 e1.
    step _ _ _ (bytes_sound len) c1 _ (b, d) b1 e1 λ content c2 t2 long b2 e2.
    let small : len < 256 = t1.so.0 in
    let both = then_spans (byte len) (exactly content) c c1 c2 t1 t2 in
    let front : both.front ≡ length content ∷ content = both.so.joined ∙ (λ i. both.so.first_so.1 i ++ both.so.second_so i) ∙ ap (λ (k : ℕ). k ∷ content) (sym long) in
    subst (λ (q : Block × Cursor). Spans (exactly (rest_bytes wide q.0)) c q.1 × GoodBlock wide (suc left) q.0 × (times ≡ times_of q.0) × (0 ≡ blocks_of q.0)) (ok_is (innermost times content, c2) (b, d) e2)
    (record { front = both.front; joined = both.joined; moved = both.moved; so = front }, omega (arith, small, long), refl, refl)
rest_sound wide left read sound times (suc more) c b d bs e =
    let a = bind_ok (items_at read (suc more) c) _ (b, d) e in
    let s = items_sound read (block_form wide) (GoodBlock wide left) sound (suc more) c a.0.0 a.0.1 bs a.1 in
    let count : suc more ≡ count_of (joined a.0.0) = sym s.2 ∙ sym (count-joined a.0.0) in
    let fits = fit-joined wide left a.0.0 (each_fits wide left a.0.0 s.0.front s.0.so s.1) in
    subst (λ (q : Block × Cursor). Spans (exactly (rest_bytes wide q.0)) c q.1 × GoodBlock wide (suc left) q.0 × (times ≡ times_of q.0) × (suc more ≡ blocks_of q.0))
    (ok_is (outer times (joined a.0.0), a.0.1) (b, d) a.2) (
      record { front = s.0.front; joined = s.0.joined; moved = s.0.moved; so = bytes-joined wide a.0.0 s.0.front s.0.so },
      (omega (arith, count), fits, depth-joined wide left a.0.0 s.1),
      refl,
      count,
    )

pub block_sound : (wide : Bool) (left : ℕ) → Sound (block_at left wide) (block_form wide) (GoodBlock wide left)
unfolding block_at
block_sound wide zero c b d bs e =
    let a = bind_ok (number_at (width wide) c) _ (b, d) e in absurd cc
block_sound wide (suc left) c b d bs e =
    step _ _ _ (number_sound (width wide)) c _ (b, d) bs e λ times c1 t1 f1 b1 e1.
    step _ _ _ (number_sound 2) c1 _ (b, d) b1 e1 λ count c2 t2 f2 b2 e2.
    let r = rest_sound wide left (block_at left wide) (block_sound wide left) times count c2 b d b2 e2 in (
      then_spans _ _ c c1 d (subst (λ (k : ℕ). Spans (number (width wide) k) c c1) r.2 t1)
          (then_spans (number 2 (blocks_of b)) _ c1 c2 d (subst (λ (k : ℕ). Spans (number 2 k) c1 c2) r.3 t2) r.0),
      r.1,
    )

pub blocks_sound : (wide : Bool) (c : Cursor) (blocks : Blocks) → AreBytes c.left → blocks_at wide c ≡ Ok blocks → (c.left ≡ block_bytes wide blocks) × GoodBlocks wide blocks
unfolding blocks_at
blocks_sound wide c blocks bs e =
    let a = bind_ok (list_at (block_at MAX_DEPTH wide) c) _ blocks e in
    let l = list_sound _ _ _ (block_sound wide MAX_DEPTH) (block_one wide) c a.0 bs a.1 in
    let fits = fit-joined wide MAX_DEPTH a.0 (each_fits wide MAX_DEPTH a.0 c.left l.0 l.1) in
    subst (λ (q : Blocks). (c.left ≡ block_bytes wide q) × GoodBlocks wide q) (ok_is (joined a.0) blocks a.2)
    (bytes-joined wide a.0 c.left l.0, record { fit = fits; depth = depth-joined wide MAX_DEPTH a.0 l.1 })

-- ---- what is spelled

split : Blocks → List Block
split none = []
split (bytes times content rest) = innermost times content ∷ split rest
split (nested times inner rest) = outer times inner ∷ split rest

joined-split : (b : Blocks) → joined (split b) ≡ b
unfolding split
joined-split none = refl
joined-split (bytes times content rest) = ap (λ (k : Blocks). bytes times content k) (joined-split rest)
joined-split (nested times inner rest) = ap (λ (k : Blocks). nested times inner k) (joined-split rest)

length-split : (b : Blocks) → length (split b) ≡ count_of b
unfolding split
length-split none = refl
length-split (bytes times content rest) = omega (arith, length-split rest)
length-split (nested times inner rest) = omega (arith, length-split rest)

-- the parts of a block's bytes
block_spelled : (wide : Bool) (b : Block) → times_of b < 256 ^ width wide → blocks_of b < 2 ^ 16 → block_form wide b (head_bytes wide (times_of b) (blocks_of b) ++ rest_bytes wide b)
block_spelled wide b times count = record {
  front = little_bytes (width wide) (times_of b);
  back = little_bytes 2 (blocks_of b) ++ rest_bytes wide b;
  joined = append_assoc (little_bytes (width wide) (times_of b)) (little_bytes 2 (blocks_of b)) (rest_bytes wide b);
  first_so = (times, refl);
  second_so = record { front = little_bytes 2 (blocks_of b); back = rest_bytes wide b; joined = refl; first_so = (count, refl); second_so = refl };
}

spelled-split : (wide : Bool) (b : Blocks) → FitBlocks wide b → each (block_form wide) (split b) (block_bytes wide b)
unfolding split
spelled-split wide none fit = refl
spelled-split wide (bytes times content rest) fit = record {
  front = head_bytes wide times 0 ++ length content ∷ content;
  back = block_bytes wide rest;
  joined = refl;
  first_so = block_spelled wide (innermost times content) fit.0 (omega arith);
  second_so = spelled-split wide rest fit.2;
}
spelled-split wide (nested times inner rest) fit = record {
  front = head_bytes wide times (count_of inner) ++ block_bytes wide inner;
  back = block_bytes wide rest;
  joined = refl;
  first_so = block_spelled wide (outer times inner) fit.0 fit.2;
  second_so = spelled-split wide rest fit.4;
}

good-split : (wide : Bool) (left : ℕ) (b : Blocks) → FitBlocks wide b → depth_of b ≤ left → AllByRecursion (GoodBlock wide left) (split b)
unfolding split
good-split wide left none fit deep = tt
good-split wide zero (bytes times content rest) fit deep = absurd (omega (arith, deep))
good-split wide (suc left) (bytes times content rest) fit deep = (fit.1, good-split wide (suc left) rest fit.2 (omega (arith, deep)))
good-split wide zero (nested times inner rest) fit deep = absurd (omega (arith, deep))
good-split wide (suc left) (nested times inner rest) fit deep = ((fit.1, fit.3, omega (arith, deep)), good-split wide (suc left) rest fit.4 (omega (arith, deep)))

rest_complete : (wide : Bool) (left : ℕ) (read : Cursor → Reading Block) → Complete read (block_form wide) (GoodBlock wide left) → (b : Block) (c d : Cursor) →
    Spans (exactly (rest_bytes wide b)) c d → GoodBlock wide (suc left) b → block_rest read (times_of b) (blocks_of b) c ≡ Ok (b, d)
rest_complete wide left read complete (innermost times content) c d t ok =
    let cut : Spans (byte (length content) then exactly content) c d =
    record { front = t.front; joined = t.joined; moved = t.moved; so = record { front = length content ∷ []; back = content; joined = t.so; first_so = (ok, refl); second_so = refl } } in
    let s = then_splits (byte (length content)) (exactly content) c d cut in
    rw (byte_complete c (length content) s.0 s.1 tt, bytes_complete (length content) s.0 content d s.2 refl) refl
rest_complete wide left read complete (outer times inner) c d t ok =
    let cut : Spans (each (block_form wide) (split inner)) c d =
    record { front = t.front; joined = t.joined; moved = t.moved; so = subst (λ (xs : List ℕ). each (block_form wide) (split inner) xs) (sym t.so) (spelled-split wide inner ok.1) } in
    let items = items_complete read (block_form wide) (GoodBlock wide left) complete (split inner) c d cut (good-split wide left inner ok.1 ok.2) in
    some (count_of inner) ok.0 (subst (λ (n : ℕ). items_at read n c ≡ given (split inner) d) (length-split inner) items)
  where
    some : (n : ℕ) → 1 ≤ n → items_at read n c ≡ Ok (split inner, d) → block_rest read times n c ≡ Ok (outer times inner, d)
    some zero h e = absurd (omega (arith, h))
    some (suc n) h e = rw (e, joined-split inner) refl

pub block_complete : (wide : Bool) (left : ℕ) → Complete (block_at left wide) (block_form wide) (GoodBlock wide left)
unfolding block_at
block_complete wide zero c b d t ok = absurd ok
block_complete wide (suc left) c b d t ok =
    let s1 = then_splits (number (width wide) (times_of b)) _ c d t in
    let s2 = then_splits (number 2 (blocks_of b)) (exactly (rest_bytes wide b)) s1.0 d s1.2 in
    rw (number_complete (width wide) c (times_of b) s1.0 s1.1 tt, number_complete 2 s1.0 (blocks_of b) s2.0 s2.1 tt)
    (rest_complete wide left (block_at left wide) (block_complete wide left) b s2.0 d s2.2 ok)

pub blocks_complete : (wide : Bool) (c : Cursor) (blocks : Blocks) → c.left ≡ block_bytes wide blocks → GoodBlocks wide blocks → blocks_at wide c ≡ Ok blocks
unfolding blocks_at
blocks_complete wide c blocks so good =
    let spelled = subst (λ (xs : List ℕ). each (block_form wide) (split blocks) xs) (sym so) (spelled-split wide blocks good.fit) in
    let l = list_complete _ _ _ (block_complete wide MAX_DEPTH) (block_one wide) c (split blocks) spelled (good-split wide MAX_DEPTH blocks good.fit good.depth) in
    rw (l, joined-split blocks) refl

-- the blocks that good blocks' bytes spell are these
pub blocks_in-bytes : (wide : Bool) (blocks : Blocks) → GoodBlocks wide blocks → blocks_in wide (block_bytes wide blocks) ≡ blocks
unfolding blocks_in
blocks_in-bytes wide blocks good = rw (blocks_complete wide (record { at = 0; left = block_bytes wide blocks }) blocks refl good) refl
