-- Each field that is read has its form, and each form is read.
use Rattle.std.proofs.Common.{◌≡◌, ℕ, suc, ◌+◌, ◌-◌, ◌*◌, ◌/◌, ◌%◌, ◌^◌, ◌<◌, ◌≤◌, Bool, true, false, cond, ltb, leb, eqb, List, [], ◌∷◌, ◌++◌, length, take, drop, Ok, Err, refl, sym, ap, subst, ◌∙◌, arith, inl, inr, length-append}
use Rattle.std.specs.Prelude.{◌⊎◌}
use Rattle.std.proofs.Math.Nat.{pow-suc}
use Rattle.std.proofs.lemmas.Bool.{cases_lt, ltb-false, ltb-true, le-ltb, lt-ltb, leb-true, le-leb, eqb-true, eqb-false, ne_eqb}
use Rattle.std.proofs.lemmas.List.{take_at, drop_at, take-append-drop, length-take}
use Rattle.lx_bytes.specs.Cursor.{Cursor, advance}
use Rattle.lx_bytes.specs.LittleEndian.{AreBytes, little, little_bytes}
use Rattle.lx_bytes.proofs.Numbers.{length-little_bytes, little-little_bytes, little_bytes-little}
use Rattle.obj_types.specs.declared.refusal.OmfRefusal.{OmfRefusal}
use Rattle.obj_types.specs.declared.refusal.OmfRefusal.TheVariants.{Short, BadIndex}
use Rattle.omf_frame.proofs.Records.{AreBytes-take}
use Rattle.omf_fields.specs.Fields.{number_at, byte_of, byte_at, name_of, name_at, index_of, index_at, is_among, checked, index_below, index_or_zero}
use Rattle.omf_fields.specs.Forms.{byte, number, name, index}
pub use Rattle.omf_fields.specs.Spans.{Free}
use Rattle.omf_fields.proofs.SpanLaws.{Spans, cursor_is, Sound, Complete, given, ok_is, bind_ok}

-- a test that did not fail
pub guard_ok : {A : Type 0} (b : Bool) (d : OmfRefusal) (x y : A) → cond b (Err d) (Ok x) ≡ Ok y → (b ≡ false) × (x ≡ y)
guard_ok true d x y e = absurd cc
guard_ok false d x y e = (refl, ok_is x y e)

-- ---- bytes

pub byte_sound : Sound byte_at byte Free
byte_sound c x d bytes e = of c.at c.left x d bytes e
  where
    of : (at : ℕ) (left : List ℕ) (x : ℕ) (d : Cursor) → AreBytes left → byte_of at left ≡ Ok (x, d) → Spans (byte x) (record { at = at; left = left }) d × Unit {0}
    of at [] x d bytes e = absurd cc
    of at (b ∷ rest) x d bytes e =
        subst (λ (p : ℕ × Cursor). Spans (byte p.0) (record { at = at; left = b ∷ rest }) p.1 × Unit {0}) (ok_is (b, record { at = at + 1; left = rest }) (x, d) e)
        (record { front = b ∷ []; joined = refl; moved = refl; so = (bytes 0, refl) }, tt)

pub byte_complete : Complete byte_at byte Free
byte_complete c x d t ok =
    let whole : c.left ≡ x ∷ d.left = t.joined ∙ ap (λ (xs : List ℕ). xs ++ d.left) t.so.1 in
    let one : length t.front ≡ 1 = ap (λ (xs : List ℕ). length xs) t.so.1 in
    rw whole (ap (λ (k : Cursor). Ok (x, k)) (cursor_is d (c.at + 1) d.left (omega (arith, t.moved, one)) refl))

-- ---- numbers

pub AreBytes-rest : (b : ℕ) (bs : List ℕ) → AreBytes (b ∷ bs) → AreBytes bs
AreBytes-rest b bs h i = h (suc i)

pub little-below : (bs : List ℕ) → AreBytes bs → little bs < 256 ^ length bs
little-below [] h = omega arith
little-below (b ∷ bs) h =
    let low : b < 256 = h 0 in
    let high = little-below bs (AreBytes-rest b bs h) in
    rw (pow-suc 256 (length bs)) (omega (arith, low, high))

pub number_sound : (n : ℕ) → Sound (number_at n) (number n) Free
number_sound n c x d bytes e =
    let g = guard_ok (ltb (length c.left) n) (Short c.at) (little (take n c.left), advance n c) (x, d) e in
    let long : n ≤ length c.left = ltb-false _ _ g.0 in
    let len : length (take n c.left) ≡ n = omega (arith, length-take n c.left) in
    let fit = AreBytes-take n c.left bytes in
    let below : little (take n c.left) < 256 ^ n = subst (λ (k : ℕ). little (take n c.left) < 256 ^ k) len (little-below (take n c.left) fit) in
    let back : take n c.left ≡ little_bytes n (little (take n c.left)) = subst (λ (k : ℕ). take n c.left ≡ little_bytes k (little (take n c.left))) len (sym (little_bytes-little (take n c.left) fit)) in
    subst (λ (p : ℕ × Cursor). Spans (number n p.0) c p.1 × Unit {0}) g.1
    (record { front = take n c.left; joined = sym (take-append-drop n c.left); moved = ap (λ (k : ℕ). c.at + k) (sym len); so = (below, back) }, tt)

pub number_complete : (n : ℕ) → Complete (number_at n) (number n) Free
number_complete n c x d t ok =
    let len : length t.front ≡ n = ap (λ (xs : List ℕ). length xs) t.so.1 ∙ length-little_bytes n x in
    let long : ltb (length (t.front ++ d.left)) n ≡ false = le-ltb _ _ (omega (arith, length-append t.front d.left, len)) in
    let value : little (t.front) ≡ x = ap (λ (xs : List ℕ). little xs) t.so.1 ∙ little-little_bytes n x t.so.0 in
    rw (t.joined, long, take_at t.front d.left n len, drop_at t.front d.left n len, value) (ap (λ (k : Cursor). Ok (x, k)) (cursor_is d (c.at + n) d.left (omega (arith, t.moved, len)) refl))

-- ---- names

name_front : (at n : ℕ) (rest : List ℕ) → n < 256 → n ≤ length rest → Spans (name (take n rest)) (record { at = at; left = n ∷ rest }) (record { at = at + 1 + n; left = drop n rest })
name_front at n rest small long =
    let len : length (take n rest) ≡ n = omega (arith, length-take n rest) in
    record {
      front = n ∷ take n rest;
      joined = ap (λ (xs : List ℕ). n ∷ xs) (sym (take-append-drop n rest));
      moved = omega (arith, len);
      so = (omega (arith, len), ap (λ (k : ℕ). k ∷ take n rest) (sym len));
    }

pub name_sound : Sound name_at name Free
name_sound c x d bytes e = of c.at c.left x d bytes e
  where
    of : (at : ℕ) (left : List ℕ) (x : List ℕ) (d : Cursor) → AreBytes left → name_of at left ≡ Ok (x, d) → Spans (name x) (record { at = at; left = left }) d × Unit {0}
    of at [] x d bytes e = absurd cc
    of at (n ∷ rest) x d bytes e =
        let g = guard_ok (ltb (length rest) n) (Short at) (take n rest, record { at = at + 1 + n; left = drop n rest }) (x, d) e in
        subst (λ (p : List ℕ × Cursor). Spans (name p.0) (record { at = at; left = n ∷ rest }) p.1 × Unit {0}) g.1
        (name_front at n rest (bytes 0) (ltb-false _ _ g.0), tt)

pub name_complete : Complete name_at name Free
name_complete c x d t ok =
    let whole : c.left ≡ length x ∷ (x ++ d.left) = t.joined ∙ ap (λ (xs : List ℕ). xs ++ d.left) t.so.1 in
    let len : length t.front ≡ suc (length x) = ap (λ (xs : List ℕ). length xs) t.so.1 in
    let long : ltb (length (x ++ d.left)) (length x) ≡ false = le-ltb _ _ (omega (arith, length-append x d.left)) in
    rw (whole, long, take_at x d.left (length x) refl, drop_at x d.left (length x) refl) (ap (λ (k : Cursor). Ok (x, k)) (cursor_is d (c.at + 1 + length x) d.left (omega (arith, t.moved, len)) refl))

-- ---- indices

-- which way a test went
pub chosen : {A : Type 0} (b : Bool) (x y z : A) → cond b x y ≡ z → ((b ≡ true) × (x ≡ z)) ⊎ ((b ≡ false) × (y ≡ z))
chosen true x y z e = inl (refl, e)
chosen false x y z e = inr (refl, e)

index_one : (at b : ℕ) (rest : List ℕ) (x : ℕ) (d : Cursor) → b < 128 → given b (record { at = at + 1; left = rest }) ≡ given x d → Spans (index x) (record { at = at; left = b ∷ rest }) d × Unit {0}
index_one at b rest x d small e =
    subst (λ (p : ℕ × Cursor). Spans (index p.0) (record { at = at; left = b ∷ rest }) p.1 × Unit {0}) (ok_is (b, record { at = at + 1; left = rest }) (x, d) e)
    (record { front = b ∷ []; joined = refl; moved = refl; so = inl (small, refl) }, tt)

index_two : (at b low : ℕ) (rest : List ℕ) (x : ℕ) (d : Cursor) → 128 ≤ b → b < 256 → low < 256 → given ((b - 128) * 256 + low) (record { at = at + 2; left = rest }) ≡ given x d → Spans (index x) (record { at = at; left = b ∷ low ∷ rest }) d × Unit {0}
index_two at b low rest x d large fits low_fits e =
    let high : (128 + ((b - 128) * 256 + low) / 256) ≡ b = omega (arith, large, low_fits) in
    let back : ((b - 128) * 256 + low) % 256 ≡ low = omega (arith, low_fits) in
    subst (λ (p : ℕ × Cursor). Spans (index p.0) (record { at = at; left = b ∷ low ∷ rest }) p.1 × Unit {0}) (ok_is ((b - 128) * 256 + low, record { at = at + 2; left = rest }) (x, d) e)
    (record { front = b ∷ low ∷ []; joined = refl; moved = refl; so = inr (omega (arith, fits, low_fits), λ i. sym high i ∷ sym back i ∷ []) }, tt)

index_left : (at : ℕ) (left : List ℕ) (x : ℕ) (d : Cursor) → AreBytes left → index_of at left ≡ Ok (x, d) → Spans (index x) (record { at = at; left = left }) d × Unit {0}
index_left at [] x d bytes e = absurd cc
index_left at (b ∷ []) x d bytes e =
    elim (chosen (ltb b 128) (given b (record { at = at + 1; left = [] })) (Err (Short at)) (Ok (x, d)) e) [
      | inl h ↦ index_one at b [] x d (ltb-true b 128 h.0) h.1
      | inr h ↦ absurd cc
    ]
index_left at (b ∷ low ∷ rest) x d bytes e =
    elim (chosen (ltb b 128) (given b (record { at = at + 1; left = low ∷ rest })) (Ok ((b - 128) * 256 + low, record { at = at + 2; left = rest })) (Ok (x, d)) e) [
      | inl h ↦ index_one at b (low ∷ rest) x d (ltb-true b 128 h.0) h.1
      | inr h ↦ index_two at b low rest x d (ltb-false b 128 h.0) (bytes 0) (bytes 1) h.1
    ]

pub index_sound : Sound index_at index Free
index_sound c x d bytes e = index_left c.at c.left x d bytes e

short_index : (at b : ℕ) (rest : List ℕ) → b < 128 → index_of at (b ∷ rest) ≡ Ok (b, record { at = at + 1; left = rest })
short_index at b [] small = rw (lt-ltb b 128 small) refl
short_index at b (low ∷ rest) small = rw (lt-ltb b 128 small) refl

pub index_complete : Complete index_at index Free
index_complete c x d t ok =
    elim t.so [
      | inl h ↦
          let whole : c.left ≡ x ∷ d.left = t.joined ∙ ap (λ (xs : List ℕ). xs ++ d.left) h.1 in
          let one : length t.front ≡ 1 = ap (λ (xs : List ℕ). length xs) h.1 in
          rw whole (short_index c.at x d.left h.0 ∙ ap (λ (k : Cursor). Ok (x, k)) (cursor_is d (c.at + 1) d.left (omega (arith, t.moved, one)) refl))
      | inr h ↦
          let whole : c.left ≡ (128 + x / 256) ∷ (x % 256) ∷ d.left = t.joined ∙ ap (λ (xs : List ℕ). xs ++ d.left) h.1 in
          let two : length t.front ≡ 2 = ap (λ (xs : List ℕ). length xs) h.1 in
          let large : ltb (128 + x / 256) 128 ≡ false = le-ltb _ _ (omega arith) in
          let value : (128 + x / 256 - 128) * 256 + x % 256 ≡ x = omega arith in
          rw (whole, large, value) (ap (λ (k : Cursor). Ok (x, k)) (cursor_is d (c.at + 2) d.left (omega (arith, t.moved, two)) refl))
    ]

-- ---- an index in a range

pub among : (have i : ℕ) → is_among false have i ≡ true → (1 ≤ i) × (i ≤ have)
among have i e =
    elim (chosen (eqb i 0) false (leb i have) true e) [
      | inl h ↦ absurd cc
      | inr h ↦
          let some : 1 ≤ i = elim (cases_lt 0 i) [ inl lt ↦ omega (arith, lt) | inr le ↦ absurd (eqb-false i 0 h.0 (omega (arith, le))) ] in
          (some, leb-true i have h.1)
    ]

pub among_or_zero : (have i : ℕ) → is_among true have i ≡ true → i ≤ have
among_or_zero have i e =
    elim (chosen (eqb i 0) true (leb i have) true e) [
      | inl h ↦ omega (arith, eqb-true i 0 h.0)
      | inr h ↦ leb-true i have h.1
    ]

pub is_among_index : (have i : ℕ) → 1 ≤ i → i ≤ have → is_among false have i ≡ true
is_among_index have i low high = rw (ne_eqb i 0 (λ none. omega (arith, none, low))) (le-leb i have high)

pub is_among_zero : (have i : ℕ) → i ≤ have → is_among true have i ≡ true
is_among_zero have i high = let both : cond (eqb i 0) true (leb i have) ≡ true = rw (le-leb i have high) (elim (eqb i 0) as (λ b. cond b true true ≡ true) [ true ↦ refl | false ↦ refl ]) in both

-- a test that did not fail, the other way round
pub guard_so : {A : Type 0} (b : Bool) (d : OmfRefusal) (x y : A) → cond b (Ok x) (Err d) ≡ Ok y → (b ≡ true) × (x ≡ y)
guard_so true d x y e = (refl, ok_is x y e)
guard_so false d x y e = absurd cc

abbrev pub FromOne : ℕ → ℕ → Type 0
FromOne have i = (1 ≤ i) × (i ≤ have)

pub below_sound : (have : ℕ) → Sound (index_below have) index (FromOne have)
unfolding index_below
below_sound have c x d bytes e =
    let b = bind_ok (index_at c) (checked false have c.at) (x, d) e in
    let g = guard_so (is_among false have b.0.0) (BadIndex c.at b.0.0 have) b.0 (x, d) b.2 in
    let t = index_sound c b.0.0 b.0.1 bytes b.1 in
    subst (λ (p : ℕ × Cursor). Spans (index p.0) c p.1 × FromOne have p.0) g.1 (t.0, among have b.0.0 g.0)

pub below_complete : (have : ℕ) → Complete (index_below have) index (FromOne have)
unfolding index_below
below_complete have c x d t ok = rw (index_complete c x d t tt, is_among_index have x ok.0 ok.1) refl

pub or_zero_sound : (have : ℕ) → Sound (index_or_zero have) index (λ i. i ≤ have)
unfolding index_or_zero
or_zero_sound have c x d bytes e =
    let b = bind_ok (index_at c) (checked true have c.at) (x, d) e in
    let g = guard_so (is_among true have b.0.0) (BadIndex c.at b.0.0 have) b.0 (x, d) b.2 in
    let t = index_sound c b.0.0 b.0.1 bytes b.1 in
    subst (λ (p : ℕ × Cursor). Spans (index p.0) c p.1 × (p.0 ≤ have)) g.1 (t.0, among_or_zero have b.0.0 g.0)

pub or_zero_complete : (have : ℕ) → Complete (index_or_zero have) index (λ i. i ≤ have)
unfolding index_or_zero
or_zero_complete have c x d t ok = rw (index_complete c x d t tt, is_among_zero have x ok) refl
