-- What the refusal of a field means.
use Rattle.std.proofs.Common.{◌≡◌, ◌≢◌, ℕ, zero, suc, ◌+◌, ◌-◌, ◌*◌, ◌/◌, ◌%◌, ◌^◌, ◌<◌, ◌≤◌, Bool, true, false, cond, ltb, List, [], ◌∷◌, ◌++◌, length, take, drop, replicate, Result, Ok, Err, refl, sym, ap, subst, ◌∙◌, arith, inl, inr, length-append}
use Rattle.std.specs.Prelude.{◌⊎◌}
use Rattle.std.proofs.lemmas.Bool.{ltb-true, ltb-false}
use Rattle.std.proofs.lemmas.List.{length-replicate}
use Rattle.lx_bytes.specs.Cursor.{Cursor, advance}
use Rattle.lx_bytes.specs.LittleEndian.{AreBytes, little, little_bytes}
use Rattle.lx_bytes.proofs.Numbers.{little_bytes-little}
use Rattle.obj_types.specs.declared.refusal.OmfRefusal.{OmfRefusal}
use Rattle.obj_types.specs.declared.refusal.OmfRefusal.TheVariants.{Short, BadIndex}
use Rattle.lx_types.specs.Answers.{◌>>=◌}
use Rattle.omf_fields.specs.Fields.{number_at, byte_of, byte_at, name_of, name_at, index_of, index_at, is_among, checked, index_below, index_or_zero}
use Rattle.omf_fields.specs.Forms.{byte, number, name, index}
use Rattle.omf_fields.specs.Faults.{PassesEnd, IsNoIndex}
use Rattle.omf_fields.proofs.SpanLaws.{given}
use Rattle.omf_fields.proofs.FieldLaws.{chosen, index_sound, is_among_index, is_among_zero, little-below}

-- a test that failed
fails : {A : Type 0} (b : Bool) (x : A) (d f : OmfRefusal) → cond b (Err d) (Ok x) ≡ Err f → (b ≡ true) × (d ≡ f)
fails true x d f e = (refl, cc)
fails false x d f e = absurd cc

fails_else : {A : Type 0} (b : Bool) (x : A) (d f : OmfRefusal) → cond b (Ok x) (Err d) ≡ Err f → (b ≡ false) × (d ≡ f)
fails_else true x d f e = absurd cc
fails_else false x d f e = (refl, cc)

abbrev zeros : ℕ → List ℕ
zeros n = replicate n 0

missing-some : (n : ℕ) → 1 ≤ n → zeros n ≢ []
missing-some zero h e = absurd (omega (arith, h))
missing-some (suc n) h e = absurd cc

pub byte-short : (c : Cursor) (f : OmfRefusal) → byte_at c ≡ Err f → PassesEnd byte c f
byte-short c f e = of c.at c.left f e
  where
    of : (at : ℕ) (left : List ℕ) (f : OmfRefusal) → byte_of at left ≡ Err f → PassesEnd byte (record { at = at; left = left }) f
    of at [] f e = record { is = cc; value = 0; missing = 0 ∷ []; some = λ z. cc; so = (omega arith, refl) }
    of at (b ∷ rest) f e = absurd cc

bytes-append : (xs ys : List ℕ) → AreBytes xs → AreBytes ys → AreBytes (xs ++ ys)
bytes-append [] ys h k i = k i
bytes-append (x ∷ xs) ys h k zero = h zero
bytes-append (x ∷ xs) ys h k (suc i) = bytes-append xs ys (λ j. h (suc j)) k i

zeros-bytes : (n : ℕ) → AreBytes (zeros n)
zeros-bytes zero i = omega arith
zeros-bytes (suc n) zero = omega arith
zeros-bytes (suc n) (suc i) = zeros-bytes n i

pub number-short : (n : ℕ) (c : Cursor) (f : OmfRefusal) → AreBytes c.left → number_at n c ≡ Err f → PassesEnd (number n) c f
number-short n c f bytes e =
    let k = fails (ltb (length c.left) n) (little (take n c.left), advance n c) (Short c.at) f e in
    let few : length c.left < n = ltb-true _ _ k.0 in
    let more : List ℕ = zeros (n - length c.left) in
    let all : List ℕ = c.left ++ more in
    let long : length all ≡ n = omega (arith, few, length-append c.left more, length-replicate (n - length c.left) (let z : ℕ = 0 in z)) in
    let fit : AreBytes all = bytes-append c.left more bytes (zeros-bytes (n - length c.left)) in
    record {
      is = sym k.1;
      value = little all;
      missing = more;
      some = missing-some (n - length c.left) (omega (arith, few));
      so = (subst (λ (m : ℕ). little all < 256 ^ m) long (little-below all fit), subst (λ (m : ℕ). all ≡ little_bytes m (little all)) long (sym (little_bytes-little all fit)));
    }

pub name-short : (c : Cursor) (f : OmfRefusal) → AreBytes c.left → name_at c ≡ Err f → PassesEnd name c f
name-short c f bytes e = of c.at c.left f bytes e
  where
    of : (at : ℕ) (left : List ℕ) (f : OmfRefusal) → AreBytes left → name_of at left ≡ Err f → PassesEnd name (record { at = at; left = left }) f
    of at [] f bytes e = record { is = cc; value = []; missing = 0 ∷ []; some = λ z. cc; so = (omega arith, refl) }
    of at (n ∷ rest) f bytes e =
        let k = fails (ltb (length rest) n) (take n rest, record { at = at + 1 + n; left = drop n rest }) (Short at) f e in
        let few : length rest < n = ltb-true _ _ k.0 in
        let more : List ℕ = zeros (n - length rest) in
        let long : length (rest ++ more) ≡ n = omega (arith, few, length-append rest more, length-replicate (n - length rest) (let z : ℕ = 0 in z)) in
        let small : n < 256 = bytes 0 in
        record {
          is = sym k.1;
          value = rest ++ more;
          missing = more;
          some = missing-some (n - length rest) (omega (arith, few));
          so = (omega (arith, long, small), ap (λ (m : ℕ). m ∷ rest ++ more) (sym long));
        }

pub index-short : (c : Cursor) (f : OmfRefusal) → AreBytes c.left → index_at c ≡ Err f → PassesEnd index c f
index-short c f bytes e = of c.at c.left f bytes e
  where
    of : (at : ℕ) (left : List ℕ) (f : OmfRefusal) → AreBytes left → index_of at left ≡ Err f → PassesEnd index (record { at = at; left = left }) f
    of at [] f bytes e = record { is = cc; value = 0; missing = 0 ∷ []; some = λ z. cc; so = inl (omega arith, refl) }
    of at (b ∷ []) f bytes e =
        let k = fails_else (ltb b 128) (b, record { at = at + 1; left = [] }) (Short at) f e in
        let large : 128 ≤ b = ltb-false _ _ k.0 in
        let small : b < 256 = bytes 0 in
        let high : 128 + (b - 128) * 256 / 256 ≡ b = omega (arith, large) in
        let low : (b - 128) * 256 % 256 ≡ 0 = omega arith in
        record { is = sym k.1; value = (b - 128) * 256; missing = 0 ∷ []; some = λ z. cc; so = inr (omega (arith, small), λ i. sym high i ∷ sym low i ∷ []) }
    of at (b ∷ low ∷ rest) f bytes e =
        elim (chosen (ltb b 128) (given b (record { at = at + 1; left = low ∷ rest })) (given ((b - 128) * 256 + low) (record { at = at + 2; left = rest })) (Err f) e) [
          | inl h ↦ absurd cc
          | inr h ↦ absurd cc
        ]

-- an index that is refused is missing or not allowed
index-fault : (zero_too : Bool) (Allowed : ℕ → Type 0) (have : ℕ) → ((i : ℕ) → Allowed i → is_among zero_too have i ≡ true) → (c : Cursor) (f : OmfRefusal) → AreBytes c.left → (index_at c >>= checked zero_too have c.at) ≡ Err f
    → PassesEnd index c f ⊎ IsNoIndex Allowed have c f
index-fault zero_too Allowed have among c f bytes e = by (index_at c) refl e
  where
    by : (r : Result (ℕ × Cursor) OmfRefusal) → index_at c ≡ r → (r >>= checked zero_too have c.at) ≡ Err f → PassesEnd index c f ⊎ IsNoIndex Allowed have c f
    by (Err g) there e = inl (index-short c f bytes (there ∙ e))
    by (Ok x) there e =
        let k = fails_else (is_among zero_too have x.0) x (BadIndex c.at x.0 have) f e in
        inr (record {
          index_there = x.0;
          after = x.1;
          spelled = (index_sound c x.0 x.1 bytes there).0;
          is = sym k.1;
          not_allowed = λ a. let both : true ≡ false = sym (among x.0 a) ∙ k.0 in absurd cc;
        })

pub below-fault : (have : ℕ) (c : Cursor) (f : OmfRefusal) → AreBytes c.left → index_below have c ≡ Err f → PassesEnd index c f ⊎ IsNoIndex (λ i. (1 ≤ i) × (i ≤ have)) have c f
unfolding index_below
below-fault have c f bytes e = index-fault false (λ i. (1 ≤ i) × (i ≤ have)) have (λ i a. is_among_index have i a.0 a.1) c f bytes e

pub or_zero-fault : (have : ℕ) (c : Cursor) (f : OmfRefusal) → AreBytes c.left → index_or_zero have c ≡ Err f → PassesEnd index c f ⊎ IsNoIndex (λ i. i ≤ have) have c f
unfolding index_or_zero
or_zero-fault have c f bytes e = index-fault true (λ i. i ≤ have) have (λ i a. is_among_zero have i a) c f bytes e
