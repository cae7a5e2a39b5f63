-- A block of "A2h LIDATA", walked over after others.
use Rattle.std.proofs.Common.{◌≡◌, ◌≢◌, ℕ, zero, suc, ◌+◌, ◌-◌, ◌*◌, ◌<◌, ◌≤◌, Bool, true, false, ltb, List, [], ◌∷◌, ◌++◌, length, take, drop, Result, Ok, Err, refl, sym, ap, subst, ◌∙◌, arith, length-append}
use Rattle.std.specs.Prelude.{IsTrue}
use Rattle.std.proofs.lemmas.List.{append-nil, length-take}
use Rattle.std.proofs.lemmas.Bool.{ltb-false}
use Rattle.lx_types.specs.declared.fail.Fail.{Fail}
use Rattle.lx_types.specs.declared.fail.Fail.TheVariants.{Said, NoMemory}
use Rattle.lx_bytes.specs.Cursor.{Cursor, advance}
use Rattle.lx_bytes.specs.LittleEndian.{AreBytes}
use Rattle.obj_types.specs.declared.limits.TheConstants.{MAX_DEPTH}
use Rattle.obj_types.specs.declared.refusal.OmfRefusal.{OmfRefusal}
use Rattle.obj_types.specs.declared.refusal.OmfRefusal.TheVariants.{Short}
use Rattle.lx_bytes.proofs.Numbers.{length-little_bytes}
use Rattle.lx_types.specs.Answers.{◌>>=◌, if_said, Tells, Gives}
use Rattle.omf_fields.specs.Fields.{Reading, width, number_at, byte_at, bytes_at, items_at, list_at}
use Rattle.omf_fields.proofs.SpanLaws.{bytes_after, ok_is}
use Rattle.omf_fields.proofs.FieldLaws.{guard_ok, number_sound, byte_sound}
use Rattle.omf_model.specs.Blocks.{Blocks, none, expanded_len, origins, contents}
use Rattle.omf_model.specs.ReadBlocks.{Block, innermost, joined, block_at, blocks_at, blocks_in, found_or_none}
use Rattle.omf_model.specs.Copies.{repeated, place_in, block_copies}
use Rattle.omf_model.specs.Fixups.{places_of}
use Rattle.omf_model.proofs.CopiesLaws.{copies-found}
use Rattle.omf_model.proofs.BlockLaws.{blocks_sound, blocks_complete, blocks_in-bytes}
use Rattle.omf_fix.specs.Found.{Found, live_times, with_block, found_at, blocks_found, IsInContents}
use Rattle.omf_fix.proofs.Shifted.{moved, moved-none, repeated-never, after-old}
use Rattle.omf_data.specs.Expanding.{seen}
use Rattle.omf_data.proofs.Onto.{items-next, items-refused, items-done, seen-ok, seen-err, block-takes, outer-is, through, list-more, list-refused, list-done}
use Rattle.omf_fix.proofs.Onto.{if_live, found_after, more_found, found-law, block-moves}

-- ---- positions

pub number-moves : (n : ℕ) (c d : Cursor) (x : ℕ) → IsInContents c → number_at n c ≡ Ok (x, d) → (d.at ≡ c.at + n) × IsInContents d
number-moves n c d x ok e =
    let t = (number_sound n c x d ok.bytes e).0 in
    let long : length t.front ≡ n = ap (λ (ys : List ℕ). length ys) t.so.1 ∙ length-little_bytes n _ in
    (omega (arith, t.moved, long), record { after = omega (arith, t.moved, ok.after); bytes = bytes_after _ c d t ok.bytes })

pub byte-moves : (c d : Cursor) (x : ℕ) → IsInContents c → byte_at c ≡ Ok (x, d) → (d.at ≡ c.at + 1) × IsInContents d
byte-moves c d x ok e =
    let t = (byte_sound c x d ok.bytes e).0 in
    let long : length t.front ≡ 1 = ap (λ (ys : List ℕ). length ys) t.so.1 in
    (omega (arith, t.moved, long), record { after = omega (arith, t.moved, ok.after); bytes = bytes_after _ c d t ok.bytes })

pub bytes-moves : (n : ℕ) (c d : Cursor) (x : List ℕ) → IsInContents c → bytes_at n c ≡ Ok (x, d) → d.at ≡ c.at + length x
bytes-moves n c d x ok e =
    let g = guard_ok (ltb (length c.left) n) (Short c.at) (take n c.left, advance n c) (x, d) e in
    let long : length (take n c.left) ≡ n = omega (arith, ltb-false _ _ g.0, length-take n c.left) in
    let same : length (take n c.left) ≡ length x = ap (λ (p : List ℕ × Cursor). length p.0) g.1 in
    let moved : c.at + n ≡ d.at = ap (λ (p : List ℕ × Cursor). p.1.at) g.1 in
    omega (arith, long, same, moved)

-- ---- blocks in a block

abbrev pub items_found : ℕ → ℕ → Bool → Bool → ℕ → Found → Cursor → Reading Found
items_found number left wide live count w c = seen (found_after number wide live (c.at - 3, w)) (items_at (block_at left wide) count c)

pub next_found : (number left : ℕ) (wide live : Bool) (more : ℕ) (w new : Found) (c d : Cursor) → 0 < more → IsInContents c → found_at number left wide live w c ≡ Ok (new, d) → (items_found number left wide live more w c ≡ items_found number left wide live (more - 1) new d) × IsInContents d
next_found number left wide live more w new c d some ok e =
    let b = seen-ok (with_block number wide live (c.at - 3) w) (block_at left wide c) new d e in
    let m = block-moves left wide c d b.0 ok b.1 in (
      items-next (found_after number wide live) (more_found number wide live) (found-law number wide live) (block_at left wide) more (c.at - 3, w) c d b.0 some b.1
          ∙ (λ i. seen (found_after number wide live (m.0 i, b.2 i)) (items_at (block_at left wide) (more - 1) d)),
      m.1,
    )

pub refused_found : (number left : ℕ) (wide live : Bool) (more : ℕ) (w : Found) (c : Cursor) (e : OmfRefusal) → 0 < more → found_at number left wide live w c ≡ Err e → items_found number left wide live more w c ≡ Err e
refused_found number left wide live more w c e some is =
    items-refused (found_after number wide live) (more_found number wide live) (found-law number wide live) (block_at left wide) more (c.at - 3, w) c e some (seen-err (with_block number wide live (c.at - 3) w) (block_at left wide c) e is)

module _ (number left : ℕ) (wide live : Bool) (times count : ℕ) (c c1 c2 : Cursor) (deep : 0 < left) (first : number_at (width wide) c ≡ Ok (times, c1)) (second : number_at 2 c1 ≡ Ok (count, c2)) (some : 0 < count) (ok : IsInContents c) where
  pub in_block : IsInContents c2
  in_block = (number-moves 2 c1 c2 count (number-moves (width wide) c c1 times ok first).1 second).1

  place : c2.at - 3 ≡ c.at - 3 + width wide + 2
  place =
      let a = number-moves (width wide) c c1 times ok first in
      let b = number-moves 2 c1 c2 count a.1 second in
      omega (arith, a.0, b.0, ok.after)

  pub outer_refused : (lv : Bool) (w : Found) (e : OmfRefusal) → items_found number (left - 1) wide lv count w c2 ≡ Err e → found_at number left wide live w c ≡ Err e
  outer_refused lv w e is =
      rw (outer-is left wide times count c c1 c2 deep first second some, seen-err (found_after number wide lv (c2.at - 3, w)) (items_at (block_at (left - 1) wide) count c2) e is) refl

  module _ (lv : Bool) (w all : Found) (d : Cursor) (more : ℕ) (none : more ≡ 0) (so : items_found number (left - 1) wide lv more all d ≡ items_found number (left - 1) wide lv count w c2) where
    nothing_after : Found
    nothing_after = (all.0 + if_live lv 0 0, all.1 ++ moved all.0 (if_live lv [] []), all.2 ++ [])

    read_later : (bs : List Block) × (items_at (block_at (left - 1) wide) count c2 ≡ Ok (bs, d)) × (found_after number wide lv (c2.at - 3, w) bs ≡ nothing_after)
    unfolding nothing_after
    read_later =
        seen-ok (found_after number wide lv (c2.at - 3, w)) (items_at (block_at (left - 1) wide) count c2) nothing_after d
        (sym so ∙ items-done (found_after number wide lv) (more_found number wide lv) (found-law number wide lv) (block_at (left - 1) wide) more (d.at - 3, all) d none)

    no-len : (lv : Bool) (n : ℕ) → n + if_live lv 0 0 ≡ n
    no-len true n = omega arith
    no-len false n = omega arith

    no-more : (lv : Bool) (n : ℕ) (xs : List ℕ) → xs ++ moved n (if_live lv [] []) ≡ xs
    no-more true n xs = append-nil xs
    no-more false n xs = append-nil xs

    inner : Blocks
    inner = joined read_later.0

    own : List ℕ
    own = block_copies wide (c.at - 3 + width wide + 2) inner number

    all-len : all.0 ≡ w.0 + if_live lv (expanded_len inner) 0
    unfolding own read_later inner nothing_after
    all-len = sym (no-len lv all.0) ∙ (λ i. (sym read_later.2 i).0)

    all-copies : all.1 ≡ w.1 ++ moved w.0 (if_live lv own [])
    unfolding own read_later inner nothing_after
    all-copies = sym (no-more lv all.0 all.1) ∙ (λ i. (sym read_later.2 i).1) ∙ ap (λ (n : ℕ). w.1 ++ moved w.0 (if_live lv (block_copies wide n inner number) [])) place

    all-contents : all.2 ≡ w.2 ++ contents wide (c.at - 3 + width wide + 2) inner
    unfolding own read_later inner nothing_after
    all-contents = sym (append-nil all.2) ∙ (λ i. (sym read_later.2 i).2) ∙ ap (λ (n : ℕ). w.2 ++ contents wide n inner) place

    pub front_fits : (length w.1 ≤ length all.1) × (w.0 ≤ all.0)
    unfolding own read_later inner nothing_after
    front_fits = (omega (arith, ap (λ (ys : List ℕ). length ys) all-copies, length-append w.1 (moved w.0 (if_live lv own []))), omega (arith, all-len))

    whole : (len : ℕ) (copies : List ℕ) → len ≡ w.0 + live_times live times * expanded_len inner → copies ≡ w.1 ++ moved w.0 (repeated (live_times live times) (expanded_len inner) own) → found_at number left wide live w c ≡ Ok ((len, copies, all.2), d)
    unfolding own read_later inner nothing_after
    whole len copies long is = rw (outer-is left wide times count c c1 c2 deep first second some, read_later.1) (λ i. Ok ((sym long i, sym is i, sym all-contents i), d))

    pub outer_copied : (t start before : ℕ) (new : Found) → t ≡ live_times live times → lv ≡ true → start ≡ length w.1 → before ≡ w.0
        → new ≡ (let x : Found = (before + t * (all.0 - before), take start all.1 ++ repeated t (all.0 - before) (drop start all.1), all.2) in x) → found_at number left wide live w c ≡ Ok (new, d)
    unfolding own read_later inner nothing_after
    outer_copied t start before new is on at_end from copied =
        let long : all.0 ≡ w.0 + expanded_len inner = all-len ∙ ap (λ (b : Bool). w.0 + if_live b (expanded_len inner) 0) on in
        let unit : all.0 - before ≡ expanded_len inner = omega (arith, long, from) in
        let there : all.1 ≡ w.1 ++ moved w.0 own = all-copies ∙ ap (λ (b : Bool). w.1 ++ moved w.0 (if_live b own [])) on in
        whole (before + t * (all.0 - before)) (take start all.1 ++ repeated t (all.0 - before) (drop start all.1))
        (λ i. from i + is i * unit i)
        ((λ i. take start all.1 ++ repeated (is i) (unit i) (drop start all.1)) ∙ after-old w.1 all.1 own start (live_times live times) (expanded_len inner) w.0 at_end there)
        ∙ ap (λ (f : Found). Ok (f, d)) (sym copied)

    pub outer_dead : (t : ℕ) → t ≡ live_times live times → lv ≡ false → t ≡ 0 → found_at number left wide live w c ≡ Ok (all, d)
    unfolding own read_later inner nothing_after
    outer_dead t is off zero_times =
        let dead : 0 ≡ live_times live times = sym zero_times ∙ is in
        let no_len : w.0 ≡ w.0 + 0 * expanded_len inner = omega arith in
        whole all.0 all.1
        (all-len ∙ ap (λ (b : Bool). w.0 + if_live b (expanded_len inner) 0) off ∙ (let e : w.0 + 0 ≡ w.0 = omega arith in e) ∙ no_len ∙ ap (λ (n : ℕ). w.0 + n * expanded_len inner) dead)
        (all-copies ∙ ap (λ (b : Bool). w.1 ++ moved w.0 (if_live b own [])) off
        ∙ ap (λ (xs : List ℕ). w.1 ++ moved w.0 xs) (sym (repeated-never (expanded_len inner) own) ∙ ap (λ (n : ℕ). repeated n (expanded_len inner) own) dead))

-- an innermost block
pub innermost_found : (number left : ℕ) (wide live : Bool) (times len t first past : ℕ) (content : List ℕ) (w new : Found) (c c1 c2 c3 c4 : Cursor) → 0 < left → IsInContents c → number_at (width wide) c ≡ Ok (times, c1) → number_at 2 c1 ≡ Ok (0, c2) → byte_at c2 ≡ Ok (len, c3) → bytes_at len c3 ≡ Ok (content, c4)
    → t ≡ live_times live times → first ≡ c3.at - 3 → past ≡ c4.at - 3
    → new ≡ (let x : Found = (w.0 + t * (past - first), w.1 ++ moved w.0 (repeated t (past - first) (place_in first (past - first) number)), w.2 ++ (first, past) ∷ []) in x) → found_at number left wide live w c ≡ Ok (new, c4)
unfolding block_at
innermost_found number zero wide live times len t first past content w new c c1 c2 c3 c4 deep ok a b e f is low high so = absurd (omega (arith, deep))
innermost_found number (suc left) wide live times len t first past content w new c c1 c2 c3 c4 deep ok a b e f is low high so =
    let m1 = number-moves (width wide) c c1 times ok a in
    let m2 = number-moves 2 c1 c2 0 m1.1 b in
    let m3 = byte-moves c2 c3 len m2.1 e in
    let m4 = bytes-moves len c3 c4 content m3.1 f in
    let at_first : first ≡ c.at - 3 + width wide + 3 = omega (arith, low, m1.0, m2.0, m3.0, ok.after) in
    let at_past : past ≡ c.at - 3 + width wide + 3 + length content = omega (arith, high, m4, m1.0, m2.0, m3.0, ok.after) in
    let long : past - first ≡ length content = omega (arith, at_first, at_past) in
    let all : new ≡ with_block number wide live (c.at - 3) w (innermost times content) = so ∙ (λ i. (w.0 + is i * long i, w.1 ++ moved w.0 (repeated (is i) (long i) (place_in (at_first i) (long i) number)), w.2 ++ (at_first i, at_past i) ∷ [])) in
    rw (a, b, e, f) (ap (λ (x : Found). Ok (x, c4)) (sym all))

-- what a block's content adds that is repeated no time
pub content-never : (number times first past : ℕ) (w : Found) (new : List (ℕ × ℕ)) → times ≡ 0 → new ≡ w.2 ++ (first, past) ∷ []
    → (let x : Found = (w.0, w.1, new) in x) ≡ (w.0 + times * (past - first), w.1 ++ moved w.0 (repeated times (past - first) (place_in first (past - first) number)), w.2 ++ (first, past) ∷ [])
content-never number times first past w new never is =
    let unit : ℕ = past - first in
    let own : List ℕ = place_in first unit number in
    let len : w.0 ≡ w.0 + 0 * unit = omega arith in
    let copies : w.1 ≡ w.1 ++ moved w.0 (repeated 0 unit own) = sym (append-nil w.1) ∙ ap (λ (xs : List ℕ). w.1 ++ moved w.0 xs) (sym (repeated-never unit own)) in
    λ i. ((len ∙ ap (λ (n : ℕ). w.0 + n * unit) (sym never)) i, (copies ∙ ap (λ (n : ℕ). w.1 ++ moved w.0 (repeated n unit own)) (sym never)) i, is i)

-- and that is repeated
pub content-copied : (number times first past start before len : ℕ) (w : Found) (places : List ℕ) (all : List (ℕ × ℕ)) → start ≡ length w.1 → before ≡ w.0 → len ≡ before + (past - first)
    → places ≡ w.1 ++ moved before (place_in first (past - first) number) → all ≡ w.2 ++ (first, past) ∷ []
    → (let x : Found = (before + times * (len - before), take start places ++ repeated times (len - before) (drop start places), all) in x)
    ≡ (w.0 + times * (past - first), w.1 ++ moved w.0 (repeated times (past - first) (place_in first (past - first) number)), w.2 ++ (first, past) ∷ [])
content-copied number times first past start before len w places all at_end from long so is =
    let own : List ℕ = place_in first (past - first) number in
    let unit : len - before ≡ past - first = omega (arith, long) in
    let copies : take start places ++ repeated times (past - first) (drop start places) ≡ w.1 ++ moved before (repeated times (past - first) own) = after-old w.1 places own start times (past - first) before at_end so in
    λ i. (from i + times * unit i, ((λ j. take start places ++ repeated times (unit j) (drop start places)) ∙ copies ∙ ap (λ (n : ℕ). w.1 ++ moved n (repeated times (past - first) own)) from) i, is i)

-- ---- up to the end

pub some_left : (b : Bool) (xs : List ℕ) → (xs ≡ [] → IsTrue b) → b ≡ false → xs ≢ []
some_left b xs full is empty = let set : IsTrue b = full empty in absurd cc

through-joined : (number : ℕ) (wide : Bool) (w : Found) (c : Cursor) → blocks_found number wide w c ≡ through (found_after number wide true (c.at - 3, w)) (list_at (block_at MAX_DEPTH wide) c)
unfolding blocks_at
through-joined number wide w c = by (list_at (block_at MAX_DEPTH wide) c)
  where
    by : (r : Result (List Block) OmfRefusal) → ((r >>= λ blocks. Ok (joined blocks)) >>= λ b. Ok (let x : Found = (w.0 + expanded_len b, w.1 ++ moved w.0 (block_copies wide (c.at - 3) b number), w.2 ++ contents wide (c.at - 3) b) in x)) ≡ through (found_after number wide true (c.at - 3, w)) r
    by (Ok bs) = refl
    by (Err f) = refl

pub next_blocks : (number : ℕ) (wide : Bool) (w new : Found) (c d : Cursor) → IsInContents c → c.left ≢ [] → found_at number MAX_DEPTH wide true w c ≡ Ok (new, d) → (blocks_found number wide w c ≡ blocks_found number wide new d) × IsInContents d × (length d.left < length c.left)
next_blocks number wide w new c d ok some e =
    let b = seen-ok (with_block number wide true (c.at - 3) w) (block_at MAX_DEPTH wide c) new d e in
    let m = block-moves MAX_DEPTH wide c d b.0 ok b.1 in (
      through-joined number wide w c
          ∙ list-more (found_after number wide true) (more_found number wide true) (found-law number wide true) (block_at MAX_DEPTH wide) (block-takes MAX_DEPTH wide) (c.at - 3, w) c d b.0 ok.bytes some b.1
          ∙ (λ i. through (found_after number wide true (m.0 i, b.2 i)) (list_at (block_at MAX_DEPTH wide) d))
          ∙ sym (through-joined number wide new d),
      m.1,
      (block-takes MAX_DEPTH wide c b.0 d ok.bytes b.1).0,
    )

pub refused_blocks : (number : ℕ) (wide : Bool) (w : Found) (c : Cursor) (e : OmfRefusal) → IsInContents c → c.left ≢ [] → found_at number MAX_DEPTH wide true w c ≡ Err e → blocks_found number wide w c ≡ Err e
refused_blocks number wide w c e ok some is =
    through-joined number wide w c
    ∙ list-refused (found_after number wide true) (more_found number wide true) (found-law number wide true) (block_at MAX_DEPTH wide) (block-takes MAX_DEPTH wide) (c.at - 3, w) c e ok.bytes some (seen-err (with_block number wide true (c.at - 3) w) (block_at MAX_DEPTH wide c) e is)

pub no_blocks : (number : ℕ) (wide : Bool) (w : Found) (c : Cursor) → c.left ≡ [] → blocks_found number wide w c ≡ Ok w
no_blocks number wide w c empty =
    through-joined number wide w c
    ∙ list-done (found_after number wide true) (more_found number wide true) (found-law number wide true) (block_at MAX_DEPTH wide) (c.at - 3, w) c empty
    ∙ (λ i. Ok ((let e : w.0 + 0 ≡ w.0 = omega arith in e) i, append-nil w.1 i, append-nil w.2 i))

pub gives_refused : {A B C : Type 0} (view : A → C) (e : Fail OmfRefusal) (read : Result B OmfRefusal) (other : Result C OmfRefusal) → ((f : OmfRefusal) → read ≡ Err f → other ≡ Err f) → Tells (if_said e) read → Gives view if_said (Err e) other
gives_refused view (Said f) read other on h = on f h
gives_refused view NoMemory read other on h = tt

pub refusal_given : {A B : Type 0} (view : A → B) (e : Fail OmfRefusal) (f : OmfRefusal) (read : Result B OmfRefusal) → Gives view if_said (Err e) read → e ≡ Said f → read ≡ Err f
refusal_given view (Said g) f read h is = let same : g ≡ f = cc in h ∙ (λ i. Err (same i))
refusal_given view NoMemory f read h is = absurd cc

-- ---- the blocks of a body

abbrev nothing : Found
nothing = (0, [], [])

abbrev found_of : ℕ → Bool → ℕ → Blocks → Found
found_of number wide at b = (0 + expanded_len b, [] ++ moved 0 (block_copies wide at b number), [] ++ contents wide at b)

module _ (number : ℕ) (wide : Bool) (body : List ℕ) (start : Cursor) (there : start.left ≡ body) (first : start.at ≡ 3) (bytes : AreBytes start.left) where
  pub blocks_are : (w : Found) → blocks_found number wide (0, [], []) start ≡ Ok w → (w.1 ≡ places_of number (origins wide 0 (blocks_in wide body))) × (w.2 ≡ contents wide 0 (blocks_in wide body))
  blocks_are w e = by (blocks_at wide start) refl
    where
      zero-place : start.at - 3 ≡ 0
      zero-place = omega (arith, first)

      by : (r : Result Blocks OmfRefusal) → blocks_at wide start ≡ r → (w.1 ≡ places_of number (origins wide 0 (blocks_in wide body))) × (w.2 ≡ contents wide 0 (blocks_in wide body))
      by (Ok b) is =
          let sound = blocks_sound wide start b bytes is in
          let same : blocks_in wide body ≡ b = ap (λ (bs : List ℕ). blocks_in wide bs) (sym there ∙ sound.0) ∙ blocks_in-bytes wide b sound.1 in
          let found : Found = found_of number wide (start.at - 3) b in
          let so = ok_is found w (sym (ap (λ (r : Result Blocks OmfRefusal). r >>= λ blocks. Ok (found_of number wide (start.at - 3) blocks)) is) ∙ e) in (
            (λ i. (sym so i).1) ∙ moved-none (block_copies wide (start.at - 3) b number) 0 refl ∙ (λ i. block_copies wide (zero-place i) (sym same i) number) ∙ sym (copies-found wide 0 (blocks_in wide body) number),
            (λ i. (sym so i).2) ∙ (λ i. contents wide (zero-place i) (sym same i)),
          )
      by (Err f) is =
          let no : blocks_found number wide (0, [], []) start ≡ Err f = ap (λ (r : Result Blocks OmfRefusal). r >>= λ blocks. Ok (found_of number wide (start.at - 3) blocks)) is in
          absurd (let yes : Result Found OmfRefusal = Ok w in let both : yes ≡ Err f = sym e ∙ no in cc)

  pub none_are : (f : OmfRefusal) → blocks_found number wide (0, [], []) start ≡ Err f → blocks_in wide body ≡ none
  unfolding blocks_in
  none_are f e = by (blocks_at wide (record { at = 0; left = body })) refl
    where
      by : (r : Result Blocks OmfRefusal) → blocks_at wide (record { at = 0; left = body }) ≡ r → found_or_none r ≡ none
      by (Ok b) is =
          let sound = blocks_sound wide (record { at = 0; left = body }) b (subst (λ (bs : List ℕ). AreBytes bs) there bytes) is in
          let again = blocks_complete wide start b (there ∙ sound.0) sound.1 in
          let yes : blocks_found number wide (0, [], []) start ≡ Ok (found_of number wide (start.at - 3) b) = ap (λ (r : Result Blocks OmfRefusal). r >>= λ blocks. Ok (found_of number wide (start.at - 3) blocks)) again in
          absurd (let no : Result Found OmfRefusal = Err f in let both : no ≡ Ok (found_of number wide (start.at - 3) b) = sym e ∙ yes in cc)
      by (Err g) is = refl
