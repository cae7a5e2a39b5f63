-- What blocks expand to.
use Rattle.std.proofs.Common.{◌≡◌, ◌≢◌, ℕ, zero, suc, ◌+◌, ◌-◌, ◌<◌, ◌≤◌, Bool, List, [], ◌∷◌, ◌++◌, length, take, drop, Result, Ok, Err, refl, sym, ap, ◌∙◌, arith, append_assoc, length-append}
use Rattle.std.specs.Prelude.{IsTrue, false}
use Rattle.std.specs.List.{repeat, slice_range}
use Rattle.std.proofs.Math.Seq.{take-append_seam, drop-append_seam}
use Rattle.std.proofs.lemmas.List.{append-nil, take-append-drop, length-drop, drop-append-le, nil_from_length}
use Rattle.lx_types.specs.declared.fail.Fail.{Fail}
use Rattle.lx_types.specs.declared.fail.Fail.TheVariants.{Said, NoMemory}
use Rattle.lx_bytes.specs.Cursor.{Cursor}
use Rattle.lx_bytes.specs.LittleEndian.{AreBytes}
use Rattle.obj_types.specs.declared.limits.TheConstants.{MAX_DEPTH}
use Rattle.obj_types.specs.declared.refusal.OmfRefusal.{OmfRefusal}
use Rattle.lx_types.specs.Answers.{◌>>=◌, if_said, Tells, Gives}
use Rattle.omf_fields.specs.Fields.{Reading, width, number_at, items_at, list_at}
use Rattle.omf_fields.proofs.SpanLaws.{ok_is}
use Rattle.omf_model.specs.Blocks.{Blocks, expanded}
use Rattle.omf_model.specs.Copies.{capped}
use Rattle.omf_model.specs.ReadBlocks.{Block, joined, block_at, blocks_at, blocks_in}
use Rattle.omf_model.proofs.BlockLaws.{blocks_complete}
use Rattle.omf_data.specs.Expanding.{seen, block_len, block_data, measured_at, skipped_at, expanded_at, SpellsBlocks}
use Rattle.omf_data.proofs.Onto.{through, items-next, items-refused, items-done, seen-ok, seen-err, data_after, more_data, data-law, outer-is, block-takes, list-more, list-refused, list-done}

-- ---- blocks that are passed over

abbrev kept : ℕ → List Block → ℕ
kept n bs = n

abbrev same : ℕ → Block → ℕ
same n b = n

kept-law : (n : ℕ) (b : Block) (bs : List Block) → kept n (b ∷ bs) ≡ kept (same n b) bs
kept-law n b bs = refl

abbrev pub passed_at : ℕ → Bool → ℕ → ℕ → Cursor → Reading ℕ
passed_at left wide more count c = seen (kept count) (items_at (block_at left wide) more c)

pub next_passed : (left : ℕ) (wide : Bool) (more count x : ℕ) (c d : Cursor) → 0 < more → measured_at left wide c ≡ Ok (x, d) → passed_at left wide more count c ≡ passed_at left wide (more - 1) count d
next_passed left wide more count x c d some e =
    let b = seen-ok (λ (b : Block). capped (block_len b)) (block_at left wide c) x d e in
    items-next kept same kept-law (block_at left wide) more count c d b.0 some b.1

pub refused_passed : (left : ℕ) (wide : Bool) (more count : ℕ) (c : Cursor) (e : OmfRefusal) → 0 < more → measured_at left wide c ≡ Err e → passed_at left wide more count c ≡ Err e
refused_passed left wide more count c e some is =
    items-refused kept same kept-law (block_at left wide) more count c e some (seen-err (λ (b : Block). capped (block_len b)) (block_at left wide c) e is)

pub passed_all : (left : ℕ) (wide : Bool) (more count : ℕ) (c : Cursor) → more ≡ 0 → passed_at left wide more count c ≡ Ok (count, c)
passed_all left wide more count c none = items-done kept same kept-law (block_at left wide) more count c none

-- ---- refusals

-- a reading that is never refused
pub never_said : {A B C : Type 0} (view : B → C) (e : Fail OmfRefusal) (read : Result A OmfRefusal) (other : Result C OmfRefusal) → ((f : OmfRefusal) → read ≡ Err f → ⊥) → Tells (if_said e) read → Gives view if_said (Err e) other
never_said view (Said f) read other never h = absurd (never f h)
never_said view NoMemory read other never h = tt

-- ---- copies

pub repeat-more : {A : Type 0} (n : ℕ) (xs : List A) → repeat n xs ++ xs ≡ repeat (suc n) xs
repeat-more zero xs = sym (append-nil xs)
repeat-more {A} (suc n) xs = append_assoc xs (repeat n xs) xs ∙ ap (λ (ys : List A). xs ++ ys) (repeat-more n xs)

pub repeat-nothing : {A : Type 0} (n : ℕ) (xs : List A) → xs ≡ [] → repeat n xs ≡ []
repeat-nothing zero xs none = refl
repeat-nothing (suc n) xs none = (λ i. none i ++ repeat-nothing n xs none i)

-- nothing stands there
pub nothing_copied : {A : Type 0} (old : List A) (start end times : ℕ) → start ≡ end → end ≡ length old → old ≡ take start old ++ repeat times (drop start old)
nothing_copied {A} old start end times same at_end =
    let none : drop start old ≡ [] = nil_from_length (drop start old) (length-drop start old ∙ (let e : length old - start ≡ 0 = omega (arith, same, at_end) in e)) in
    sym (take-append-drop start old) ∙ ap (λ (ys : List A). take start old ++ ys) (none ∙ sym (repeat-nothing times (drop start old) none))

-- a copy more
pub copied_more : {A : Type 0} (old now new : List A) (start end done : ℕ) → now ≡ old ++ repeat (done - 1) (drop start old) → 1 ≤ done → end ≡ length old → start ≤ end → new ≡ now ++ slice_range now start end
    → new ≡ old ++ repeat (done + 1 - 1) (drop start old)
copied_more {A} old now new start end done so some at_end low is =
    let unit : List A = drop start old in
    let long : length old - start ≡ length unit = sym (length-drop start old) in
    let cut : slice_range now start end ≡ unit =
    (λ i. slice_range (so i) start (at_end i))
    ∙ (λ i. take (long i) (drop-append-le start old (repeat (done - 1) unit) (omega (arith, at_end, low)) i))
    ∙ take-append_seam unit (repeat (done - 1) unit) in
    let count : suc (done - 1) ≡ done + 1 - 1 = omega (arith, some) in
    is ∙ (λ i. so i ++ cut i) ∙ append_assoc old (repeat (done - 1) unit) unit
    ∙ ap (λ (ys : List A). old ++ ys) (repeat-more (done - 1) unit ∙ ap (λ (n : ℕ). repeat n unit) count)

-- all copies
pub copied_all : {A : Type 0} (old now : List A) (start times done : ℕ) → now ≡ old ++ repeat (done - 1) (drop start old) → 1 ≤ done → done ≤ times → times ≤ done
    → now ≡ take start old ++ repeat times (drop start old)
copied_all {A} old now start times done so some low high =
    let unit : List A = drop start old in
    let count : suc (done - 1) ≡ times = omega (arith, some, low, high) in
    so ∙ (λ i. sym (take-append-drop start old) i ++ repeat (done - 1) unit) ∙ append_assoc (take start old) unit (repeat (done - 1) unit)
    ∙ ap (λ (n : ℕ). take start old ++ repeat n unit) count

-- ---- blocks in a block

-- the data of so many blocks, after other data
abbrev pub data_at : ℕ → Bool → ℕ → List ℕ → Cursor → Reading (List ℕ)
data_at left wide count front c = seen (data_after front) (items_at (block_at left wide) count c)

pub next_data : (left : ℕ) (wide : Bool) (more : ℕ) (front new : List ℕ) (c d : Cursor) → 0 < more → expanded_at left wide front c ≡ Ok (new, d) → data_at left wide more front c ≡ data_at left wide (more - 1) new d
next_data left wide more front new c d some e =
    let b = seen-ok (λ (b : Block). front ++ block_data b) (block_at left wide c) new d e in
    items-next data_after more_data data-law (block_at left wide) more front c d b.0 some b.1
    ∙ ap (λ (ys : List ℕ). data_at left wide (more - 1) ys d) b.2

pub refused_data : (left : ℕ) (wide : Bool) (more : ℕ) (front : List ℕ) (c : Cursor) (e : OmfRefusal) → 0 < more → expanded_at left wide front c ≡ Err e → data_at left wide more front c ≡ Err e
refused_data left wide more front c e some is =
    items-refused data_after more_data data-law (block_at left wide) more front c e some (seen-err (λ (b : Block). front ++ block_data b) (block_at left wide c) e is)

module _ (left : ℕ) (wide : Bool) (times count : ℕ) (c c1 c2 : Cursor) (deep : 0 < left) (first : number_at (width wide) c ≡ Ok (times, c1)) (second : number_at 2 c1 ≡ Ok (count, c2)) (some : 0 < count) where
  -- no time
  pub outer_skipped : (front : List ℕ) (d : Cursor) → times ≡ 0 → skipped_at (left - 1) wide count c2 ≡ Ok (count, d) → expanded_at left wide front c ≡ Ok (front, d)
  outer_skipped front d none e =
      let b = seen-ok (kept count) (items_at (block_at (left - 1) wide) count c2) count d e in
      rw (outer-is left wide times count c c1 c2 deep first second some, b.1, none) (λ i. Ok (append-nil front i, d))

  pub outer_skip_refused : (front : List ℕ) (e : OmfRefusal) → skipped_at (left - 1) wide count c2 ≡ Err e → expanded_at left wide front c ≡ Err e
  outer_skip_refused front e is =
      rw (outer-is left wide times count c c1 c2 deep first second some, seen-err (kept count) (items_at (block_at (left - 1) wide) count c2) e is) refl

  module _ (front all : List ℕ) (d : Cursor) (more : ℕ) (none : more ≡ 0) (so : data_at (left - 1) wide more all d ≡ data_at (left - 1) wide count front c2) where
    after : data_at (left - 1) wide count front c2 ≡ Ok (all ++ [], d)
    after = sym so ∙ items-done data_after more_data data-law (block_at (left - 1) wide) more all d none

    read_later : (bs : List Block) × (items_at (block_at (left - 1) wide) count c2 ≡ Ok (bs, d)) × (data_after front bs ≡ all ++ [])
    read_later = seen-ok (data_after front) (items_at (block_at (left - 1) wide) count c2) (all ++ []) d after

    joined_after : all ≡ front ++ expanded (joined read_later.0)
    joined_after = sym (append-nil all) ∙ sym read_later.2

    pub front_fits : length front ≤ length all
    front_fits = omega (arith, ap (λ (ys : List ℕ). length ys) joined_after, length-append front (expanded (joined read_later.0)))

    pub outer_expanded : (start : ℕ) (new : List ℕ) → start ≡ length front → new ≡ take start all ++ repeat times (drop start all) → expanded_at left wide front c ≡ Ok (new, d)
    outer_expanded start new at_end is =
        let inner : List ℕ = expanded (joined read_later.0) in
        let low : take start all ≡ front = (λ i. take (at_end i) (joined_after i)) ∙ take-append_seam front inner in
        let high : drop start all ≡ inner = (λ i. drop (at_end i) (joined_after i)) ∙ drop-append_seam front inner in
        let whole : new ≡ front ++ repeat times inner = is ∙ (λ i. low i ++ repeat times (high i)) in
        rw (outer-is left wide times count c c1 c2 deep first second some, read_later.1) (λ i. Ok (sym whole i, d))

  pub outer_data_refused : (front : List ℕ) (e : OmfRefusal) → data_at (left - 1) wide count front c2 ≡ Err e → expanded_at left wide front c ≡ Err e
  outer_data_refused front e is =
      rw (outer-is left wide times count c c1 c2 deep first second some, seen-err (data_after front) (items_at (block_at (left - 1) wide) count c2) e is) refl

-- ---- up to the end

-- what a cursor's test says
pub left_over : (b : Bool) (xs : List ℕ) → (xs ≡ [] → IsTrue b) → b ≡ false → xs ≢ []
left_over b xs full is none = let set : IsTrue b = full none in absurd cc

-- the data of all blocks, after other data
abbrev pub all_at : Bool → List ℕ → Cursor → Result (List ℕ) OmfRefusal
all_at wide front c = through (data_after front) (list_at (block_at MAX_DEPTH wide) c)

pub next_all : (wide : Bool) (front new : List ℕ) (c d : Cursor) → AreBytes c.left → c.left ≢ [] → expanded_at MAX_DEPTH wide front c ≡ Ok (new, d) → all_at wide front c ≡ all_at wide new d
next_all wide front new c d bytes some e =
    let b = seen-ok (λ (b : Block). front ++ block_data b) (block_at MAX_DEPTH wide c) new d e in
    list-more data_after more_data data-law (block_at MAX_DEPTH wide) (block-takes MAX_DEPTH wide) front c d b.0 bytes some b.1
    ∙ ap (λ (ys : List ℕ). all_at wide ys d) b.2

pub shorter_after : (wide : Bool) (front new : List ℕ) (c d : Cursor) → AreBytes c.left → expanded_at MAX_DEPTH wide front c ≡ Ok (new, d) → length d.left < length c.left
shorter_after wide front new c d bytes e =
    let b = seen-ok (λ (b : Block). front ++ block_data b) (block_at MAX_DEPTH wide c) new d e in
    (block-takes MAX_DEPTH wide c b.0 d bytes b.1).0

-- what the bytes spell
module _ (wide : Bool) (body : List ℕ) (so : SpellsBlocks wide body) (start : Cursor) (there : start.left ≡ body) where
  blocks-read : blocks_at wide start ≡ Ok (blocks_in wide body)
  blocks-read = blocks_complete wide start (blocks_in wide body) (there ∙ so.spelled) so.good

  joined-read : blocks_at wide start ≡ (list_at (block_at MAX_DEPTH wide) start >>= λ blocks. Ok (joined blocks))
  unfolding blocks_at
  joined-read = refl

  all-read : all_at wide [] start ≡ Ok (expanded (blocks_in wide body))
  all-read = by (list_at (block_at MAX_DEPTH wide) start) joined-read
    where
      by : (r : Result (List Block) OmfRefusal) → blocks_at wide start ≡ (r >>= λ blocks. Ok (joined blocks)) → through (data_after []) r ≡ Ok (expanded (blocks_in wide body))
      by (Ok bs) e = let same : joined bs ≡ blocks_in wide body = ok_is (joined bs) (blocks_in wide body) (sym e ∙ blocks-read) in (λ i. Ok (expanded (same i)))
      by (Err f) e = absurd (let no : Result Blocks OmfRefusal = Err f in let yes : no ≡ Ok (blocks_in wide body) = sym e ∙ blocks-read in cc)

  pub whole_data : (front : List ℕ) (c : Cursor) → all_at wide front c ≡ all_at wide [] start → c.left ≡ [] → front ≡ expanded (blocks_in wide body)
  whole_data front c same none =
      sym (append-nil front)
      ∙ ok_is (front ++ []) (expanded (blocks_in wide body)) (sym (list-done data_after more_data data-law (block_at MAX_DEPTH wide) front c none) ∙ same ∙ all-read)

  pub never_refused : (front : List ℕ) (c : Cursor) (e : OmfRefusal) → all_at wide front c ≡ all_at wide [] start → AreBytes c.left → c.left ≢ [] → expanded_at MAX_DEPTH wide front c ≡ Err e → ⊥
  never_refused front c e same bytes some is =
      let no : all_at wide front c ≡ Err e = list-refused data_after more_data data-law (block_at MAX_DEPTH wide) (block-takes MAX_DEPTH wide) front c e bytes some (seen-err (λ (b : Block). front ++ block_data b) (block_at MAX_DEPTH wide c) e is) in
      let yes : all_at wide front c ≡ Ok (expanded (blocks_in wide body)) = same ∙ all-read in
      cc
