-- The lengths of COMDEF: what is read has one of their forms, and each form is read.
use Rattle.std.proofs.Common.{◌≡◌, ℕ, suc, ◌+◌, ◌^◌, ◌<◌, ◌≤◌, false, cond, ltb, leb, eqb, List, [], ◌∷◌, ◌++◌, length, take, drop, Option, Some, None, Ok, refl, sym, ap, subst, ◌∙◌, arith, inl, inr, length-append}
use Rattle.std.proofs.lemmas.Bool.{ltb-false, le-ltb, leb-true, le-leb, eqb-true}
use Rattle.std.proofs.lemmas.List.{take_at, drop_at, take-append-drop, length-take}
use Rattle.lx_bytes.specs.Cursor.{Cursor}
use Rattle.lx_bytes.specs.LittleEndian.{AreBytes, little, little_bytes}
use Rattle.lx_bytes.proofs.Numbers.{length-little_bytes, little-little_bytes, little_bytes-little}
use Rattle.obj_types.specs.declared.refusal.OmfRefusal.TheVariants.{Short}
use Rattle.omf_frame.proofs.Records.{AreBytes-take}
use Rattle.omf_fields.specs.Fields.{rest_of, length_bytes, sized, length_of, length_at}
use Rattle.omf_fields.specs.Forms.{length_form}
use Rattle.omf_fields.proofs.SpanLaws.{Spans, cursor_is, Sound, Complete, given, ok_is, bind_ok}
use Rattle.omf_fields.proofs.FieldLaws.{Free, guard_ok, chosen, AreBytes-rest, little-below}

abbrev some : ℕ → Option ℕ
some n = Some n

-- the number that n more bytes give
abbrev value : ℕ → ℕ → List ℕ → ℕ
value b n rest = cond (eqb n 0) b (little (take n rest))

-- what was read with n more bytes
record Sized (at b n : ℕ) (rest : List ℕ) (x : ℕ) (d : Cursor) : Type 0 where
  long : n ≤ length rest
  is : given (value b n rest) (record { at = at + 1 + n; left = drop n rest }) ≡ given x d

sized_ok : (at b n : ℕ) (rest : List ℕ) (x : ℕ) (d : Cursor) → sized at b (Some n) rest ≡ Ok (x, d) → Sized at b n rest x d
sized_ok at b n rest x d e =
    let a = bind_ok (rest_of at n rest) (λ more. given (cond (eqb n 0) b (little more.0)) more.1) (x, d) e in
    let g = guard_ok (ltb (length rest) n) (Short at) (take n rest, record { at = at + 1 + n; left = drop n rest }) a.0 a.1 in
    record { long = ltb-false _ _ g.0; is = ap (λ (p : List ℕ × Cursor). given (cond (eqb n 0) b (little p.0)) p.1) g.1 ∙ a.2 }

sized_spans : (at b n : ℕ) (rest : List ℕ) (x : ℕ) (d : Cursor) → Sized at b n rest x d → length_form (value b n rest) (b ∷ take n rest) → Spans (length_form x) (record { at = at; left = b ∷ rest }) d
sized_spans at b n rest x d s so =
    let len : length (take n rest) ≡ n = omega (arith, s.long, length-take n rest) in
    subst (λ (p : ℕ × Cursor). Spans (length_form p.0) (record { at = at; left = b ∷ rest }) p.1) (ok_is (value b n rest, record { at = at + 1 + n; left = drop n rest }) (x, d) s.is)
    (record { front = b ∷ take n rest; joined = ap (λ (xs : List ℕ). b ∷ xs) (sym (take-append-drop n rest)); moved = omega (arith, len); so = so })

-- a number of n bytes after b
after : (b n : ℕ) (rest : List ℕ) → AreBytes rest → n ≤ length rest → (little (take n rest) < 256 ^ n) × (b ∷ take n rest ≡ b ∷ little_bytes n (little (take n rest)))
after b n rest bytes long =
    let len : length (take n rest) ≡ n = omega (arith, long, length-take n rest) in
    let fit = AreBytes-take n rest bytes in (
      subst (λ (k : ℕ). little (take n rest) < 256 ^ k) len (little-below (take n rest) fit),
      ap (λ (xs : List ℕ). b ∷ xs) (subst (λ (k : ℕ). take n rest ≡ little_bytes k (little (take n rest))) len (sym (little_bytes-little (take n rest) fit))),
    )

-- by the first byte
small : (at b : ℕ) (rest : List ℕ) (x : ℕ) (d : Cursor) → b ≤ 0x80 → sized at b (Some 0) rest ≡ Ok (x, d) → Spans (length_form x) (record { at = at; left = b ∷ rest }) d
small at b rest x d le e = sized_spans at b 0 rest x d (sized_ok at b 0 rest x d e) (inl (le, refl))

two : (at b : ℕ) (rest : List ℕ) (x : ℕ) (d : Cursor) → AreBytes rest → b ≡ 0x81 → sized at b (Some 2) rest ≡ Ok (x, d) → Spans (length_form x) (record { at = at; left = b ∷ rest }) d
two at b rest x d bytes is e =
    let s = sized_ok at b 2 rest x d e in
    let n = after b 2 rest bytes s.long in
    sized_spans at b 2 rest x d s (inr (inl (n.0, n.1 ∙ ap (λ (k : ℕ). k ∷ little_bytes 2 (little (take 2 rest))) is)))

three : (at b : ℕ) (rest : List ℕ) (x : ℕ) (d : Cursor) → AreBytes rest → b ≡ 0x84 → sized at b (Some 3) rest ≡ Ok (x, d) → Spans (length_form x) (record { at = at; left = b ∷ rest }) d
three at b rest x d bytes is e =
    let s = sized_ok at b 3 rest x d e in
    let n = after b 3 rest bytes s.long in
    sized_spans at b 3 rest x d s (inr (inr (inl (n.0, n.1 ∙ ap (λ (k : ℕ). k ∷ little_bytes 3 (little (take 3 rest))) is))))

four : (at b : ℕ) (rest : List ℕ) (x : ℕ) (d : Cursor) → AreBytes rest → b ≡ 0x88 → sized at b (Some 4) rest ≡ Ok (x, d) → Spans (length_form x) (record { at = at; left = b ∷ rest }) d
four at b rest x d bytes is e =
    let s = sized_ok at b 4 rest x d e in
    let n = after b 4 rest bytes s.long in
    sized_spans at b 4 rest x d s (inr (inr (inr (n.0, n.1 ∙ ap (λ (k : ℕ). k ∷ little_bytes 4 (little (take 4 rest))) is))))

-- what the first byte calls for
by_first : (at b : ℕ) (rest : List ℕ) (x : ℕ) (d : Cursor) → AreBytes rest → (o : Option ℕ) → length_bytes b ≡ o → sized at b o rest ≡ Ok (x, d) → Spans (length_form x) (record { at = at; left = b ∷ rest }) d
by_first at b rest x d bytes o is e =
    elim (chosen (leb b 0x80) (some 0) (cond (eqb b 0x81) (Some 2) (cond (eqb b 0x84) (Some 3) (cond (eqb b 0x88) (Some 4) None))) o is) [
      | inl h ↦ small at b rest x d (leb-true _ _ h.0) (subst (λ (p : Option ℕ). sized at b p rest ≡ given x d) (sym h.1) e)
      | inr h ↦ elim (chosen (eqb b 0x81) (some 2) (cond (eqb b 0x84) (Some 3) (cond (eqb b 0x88) (Some 4) None)) o h.1) [
        | inl k ↦ two at b rest x d bytes (eqb-true _ _ k.0) (subst (λ (p : Option ℕ). sized at b p rest ≡ given x d) (sym k.1) e)
        | inr k ↦ elim (chosen (eqb b 0x84) (some 3) (cond (eqb b 0x88) (Some 4) None) o k.1) [
          | inl l ↦ three at b rest x d bytes (eqb-true _ _ l.0) (subst (λ (p : Option ℕ). sized at b p rest ≡ given x d) (sym l.1) e)
          | inr l ↦ elim (chosen (eqb b 0x88) (some 4) None o l.1) [
            | inl m ↦ four at b rest x d bytes (eqb-true _ _ m.0) (subst (λ (p : Option ℕ). sized at b p rest ≡ given x d) (sym m.1) e)
            | inr m ↦ let none : sized at b None rest ≡ given x d = subst (λ (p : Option ℕ). sized at b p rest ≡ given x d) (sym m.1) e in absurd cc
          ]
        ]
      ]
    ]

length_left : (at : ℕ) (left : List ℕ) (x : ℕ) (d : Cursor) → AreBytes left → length_of at left ≡ Ok (x, d) → Spans (length_form x) (record { at = at; left = left }) d × Unit {0}
length_left at [] x d bytes e = absurd cc
length_left at (b ∷ rest) x d bytes e = (by_first at b rest x d (AreBytes-rest b rest bytes) (length_bytes b) refl e, tt)

pub length_sound : Sound length_at length_form Free
length_sound c x d bytes e = length_left c.at c.left x d bytes e

-- ---- each form is read

-- b and n more bytes, where b calls for so many
long_form : (b n : ℕ) → length_bytes b ≡ Some n → eqb n 0 ≡ false → (c : Cursor) (x : ℕ) (d : Cursor) (front : List ℕ) → x < 256 ^ n → front ≡ b ∷ little_bytes n x → c.left ≡ front ++ d.left → d.at ≡ c.at + length front → length_at c ≡ Ok (x, d)
long_form b n calls some c x d front fits is joined moved =
    let whole : c.left ≡ b ∷ (little_bytes n x ++ d.left) = joined ∙ ap (λ (xs : List ℕ). xs ++ d.left) is in
    let len = length-little_bytes n x in
    let long : ltb (length (little_bytes n x ++ d.left)) n ≡ false = le-ltb _ _ (omega (arith, length-append (little_bytes n x) d.left, len)) in
    let size : length front ≡ suc n = ap (λ (xs : List ℕ). length xs) is ∙ ap suc len in
    rw (whole, calls, long, some, take_at (little_bytes n x) d.left n len, drop_at (little_bytes n x) d.left n len, little-little_bytes n x fits) (ap (λ (k : Cursor). given x k) (cursor_is d (c.at + 1 + n) d.left (omega (arith, moved, size)) refl))

pub length_complete : Complete length_at length_form Free
length_complete c x d t ok =
    elim t.so [
      | inl h ↦
          let whole : c.left ≡ x ∷ d.left = t.joined ∙ ap (λ (xs : List ℕ). xs ++ d.left) h.1 in
          let one : length t.front ≡ 1 = ap (λ (xs : List ℕ). length xs) h.1 in
          let calls : length_bytes x ≡ Some 0 = rw (le-leb x 0x80 h.0) refl in
          let long : ltb (length d.left) 0 ≡ false = le-ltb _ _ (omega arith) in
          rw (whole, calls, long) (ap (λ (k : Cursor). given x k) (cursor_is d (c.at + 1 + 0) d.left (omega (arith, t.moved, one)) refl))
      | inr h ↦ elim h [
        | inl k ↦ long_form 0x81 2 refl refl c x d t.front k.0 k.1 t.joined t.moved
        | inr k ↦ elim k [
          | inl l ↦ long_form 0x84 3 refl refl c x d t.front l.0 l.1 t.joined t.moved
          | inr l ↦ long_form 0x88 4 refl refl c x d t.front l.0 l.1 t.joined t.moved
        ]
      ]
    ]
