-- The lengths of COMDEF fail exactly where one passes the end or has a first byte that says no width.
use Rattle.std.proofs.Common.{◌≡◌, ◌≢◌, ℕ, suc, ◌+◌, ◌^◌, ◌<◌, ◌≤◌, Bool, true, false, cond, ltb, leb, eqb, List, [], ◌∷◌, ◌++◌, length, take, drop, Option, Some, None, Err, refl, sym, ap, subst, ◌∙◌, arith, inl, inr, length-append}
use Rattle.std.specs.Prelude.{◌⊎◌}
use Rattle.std.proofs.lemmas.Bool.{lt-ltb, ltb-true, leb-true, leb-false, lt-leb, eqb-true, eqb-false, ne_eqb, cases_Bool}
use Rattle.lx_bytes.specs.Cursor.{Cursor}
use Rattle.lx_bytes.specs.LittleEndian.{AreBytes, little, little_bytes}
use Rattle.lx_bytes.proofs.Numbers.{length-little_bytes}
use Rattle.obj_types.specs.declared.refusal.OmfRefusal.{OmfRefusal}
use Rattle.obj_types.specs.declared.refusal.OmfRefusal.TheVariants.{Short, BadField}
use Rattle.lx_types.specs.Answers.{◌>>=◌}
use Rattle.omf_fields.specs.Fields.{length_bytes, sized, length_of, length_at}
use Rattle.omf_fields.specs.Forms.{length_form, number}
use Rattle.omf_fields.specs.Faults.{PassesEnd}
use Rattle.omf_fields.proofs.SpanLaws.{given}
use Rattle.omf_fields.proofs.FieldLaws.{AreBytes-rest}
use Rattle.omf_fields.proofs.FaultLaws.{number-short}
use Rattle.omf_fields.proofs.LengthLaws.{length_sound, length_complete}
use Rattle.omf_faults.specs.FieldParts.{IsNoLength, a_length}
use Rattle.omf_faults.proofs.Told.{Judges, refused, ok_no_err}
use Rattle.omf_faults.proofs.FieldTold.{some-missing, short_is, bad_index_is}

-- what a first byte says of the width of what follows it
abbrev NoWidth : ℕ → Type 0
NoWidth b = (0x80 < b) × ((b ≢ 0x81) × (b ≢ 0x84) × (b ≢ 0x88)) × (length_bytes b ≡ None)

abbrev Wide : ℕ → ℕ → ℕ → Type 0
Wide first n b = (b ≡ first) × (length_bytes b ≡ Some n)

says : (b : ℕ) → ((b ≤ 0x80) × (length_bytes b ≡ Some 0)) ⊎ Wide 0x81 2 b ⊎ Wide 0x84 3 b ⊎ Wide 0x88 4 b ⊎ NoWidth b
says b =
    elim (cases_Bool (leb b 0x80)) [
      | inl h ↦ inl (leb-true _ _ h, rw h refl)
      | inr h ↦ elim (cases_Bool (eqb b 0x81)) [
        | inl i ↦ inr (inl (eqb-true _ _ i, rw (h, i) refl))
        | inr i ↦ elim (cases_Bool (eqb b 0x84)) [
          | inl j ↦ inr (inr (inl (eqb-true _ _ j, rw (h, i, j) refl)))
          | inr j ↦ elim (cases_Bool (eqb b 0x88)) [
            | inl k ↦ inr (inr (inr (inl (eqb-true _ _ k, rw (h, i, j, k) refl))))
            | inr k ↦ inr (inr (inr (inr (leb-false _ _ h, (eqb-false _ _ i, eqb-false _ _ j, eqb-false _ _ k), rw (h, i, j, k) refl))))
          ]
        ]
      ]
    ]

-- ---- what fails

-- the bytes after the first one are too few
cut : (at b n : ℕ) (rest : List ℕ) (e : OmfRefusal) → sized at b (Some n) rest ≡ Err e → (length rest < n) × (e ≡ Short at)
cut at b n rest e is = by (ltb (length rest) n) refl is
  where
    by : (few : Bool) → ltb (length rest) n ≡ few → (cond few (refused {A = List ℕ × Cursor} (Short at)) (given (take n rest) (record { at = at + 1 + n; left = drop n rest })) >>= λ more. given (cond (eqb n 0) b (little more.0)) more.1) ≡ Err e
        → (length rest < n) × (e ≡ Short at)
    by true few is = (ltb-true _ _ few, bad_index_is (Short at) e is)
    by false few is = absurd (ok_no_err (cond (eqb n 0) b (little (take n rest)), (let d : Cursor = record { at = at + 1 + n; left = drop n rest } in d)) e is)

cut_short : (at b n : ℕ) (rest : List ℕ) (e : OmfRefusal) → length rest < n → e ≡ Short at → sized at b (Some n) rest ≡ Err e
cut_short at b n rest e few is = rw (lt-ltb _ _ few) (short_is {A = ℕ × Cursor} at e is)

-- what is missing of a number after the first byte
missing_number : (at n : ℕ) (rest : List ℕ) → AreBytes rest → length rest < n → PassesEnd (number n) (record { at = at; left = rest }) (Short at)
missing_number at n rest bytes few = number-short n (record { at = at; left = rest }) (Short at) bytes (rw (lt-ltb _ _ few) refl)

length-short : (c : Cursor) (e : OmfRefusal) → AreBytes c.left → length_at c ≡ Err e → PassesEnd length_form c e ⊎ IsNoLength c e
length-short c e bytes is = of c.at c.left e bytes is
  where
    wide : (at b n : ℕ) (rest : List ℕ) (e : OmfRefusal) → AreBytes rest → length_bytes b ≡ Some n → ((x : ℕ) (more : List ℕ) → x < 256 ^ n → more ≡ little_bytes n x → length_form x (b ∷ more)) → sized at b (length_bytes b) rest ≡ Err e
        → PassesEnd length_form (record { at = at; left = b ∷ rest }) e
    wide at b n rest e bytes width form is =
        let few = cut at b n rest e (subst (λ (o : Option ℕ). sized at b o rest ≡ Err e) width is) in
        let m = missing_number at n rest bytes few.0 in
        record { is = few.1; value = m.value; missing = m.missing; some = m.some; so = form m.value (rest ++ m.missing) m.so.0 m.so.1 }

    of : (at : ℕ) (left : List ℕ) (e : OmfRefusal) → AreBytes left → length_of at left ≡ Err e → PassesEnd length_form (record { at = at; left = left }) e ⊎ IsNoLength (record { at = at; left = left }) e
    of at [] e bytes is = inl (record { is = bad_index_is (Short at) e is; value = 0; missing = 0 ∷ []; some = λ z. cc; so = inl (omega arith, refl) })
    of at (b ∷ rest) e bytes is =
        let others : AreBytes rest = AreBytes-rest b rest bytes in
        elim (says b) [
          | inl h ↦ absurd (omega (arith, (cut at b 0 rest e (subst (λ (o : Option ℕ). sized at b o rest ≡ Err e) h.1 is)).0))
          | inr h ↦ elim h [
            | inl i ↦ inl (wide at b 2 rest e others i.1 (λ x more small so. inr (inl (small, λ t. i.0 t ∷ so t))) is)
            | inr i ↦ elim i [
              | inl j ↦ inl (wide at b 3 rest e others j.1 (λ x more small so. inr (inr (inl (small, λ t. j.0 t ∷ so t)))) is)
              | inr j ↦ elim j [
                | inl k ↦ inl (wide at b 4 rest e others k.1 (λ x more small so. inr (inr (inr (small, λ t. k.0 t ∷ so t)))) is)
                | inr k ↦ inr (record {
                  first = b;
                  rest = rest;
                  stands = refl;
                  large = k.0;
                  none = k.1;
                  is = bad_index_is (BadField at) e (sym (ap (λ (o : Option ℕ). sized at b o rest) k.2) ∙ is);
                })
              ]
            ]
          ]
        ]

-- ---- what is wrong fails

length-fails : (c : Cursor) (e : OmfRefusal) → PassesEnd length_form c e → length_at c ≡ Err e
length-fails c e w = of c.at c.left w.missing (some-missing w.missing w.some) w.value w.so w.is
  where
    after : (at first n b : ℕ) (rest missing : List ℕ) → 1 ≤ length missing → (x : ℕ) → length_bytes first ≡ Some n → b ∷ rest ++ missing ≡ first ∷ little_bytes n x → (e : OmfRefusal) → e ≡ Short at → length_of at (b ∷ rest) ≡ Err e
    after at first n b rest missing some x width so e is =
        let same : b ≡ first = cc in
        let all : length (b ∷ rest ++ missing) ≡ suc n = ap (λ (xs : List ℕ). length xs) so ∙ ap suc (length-little_bytes n x) in
        let known : length_bytes b ≡ Some n = ap (λ (k : ℕ). length_bytes k) same ∙ width in
        ap (λ (o : Option ℕ). sized at b o rest) known ∙ cut_short at b n rest e (omega (arith, all, some, length-append rest missing)) is

    of : (at : ℕ) (left missing : List ℕ) → 1 ≤ length missing → (x : ℕ) → length_form x (left ++ missing) → e ≡ Short at → length_of at left ≡ Err e
    of at [] missing some x so is = short_is {A = ℕ × Cursor} at e is
    of at (b ∷ rest) missing some x (inl h) is = absurd (omega (arith, some, ap (λ (xs : List ℕ). length xs) h.1, length-append rest missing))
    of at (b ∷ rest) missing some x (inr (inl h)) is = after at 0x81 2 b rest missing some x refl h.1 e is
    of at (b ∷ rest) missing some x (inr (inr (inl h))) is = after at 0x84 3 b rest missing some x refl h.1 e is
    of at (b ∷ rest) missing some x (inr (inr (inr h))) is = after at 0x88 4 b rest missing some x refl h.1 e is

no_length-fails : (c : Cursor) (e : OmfRefusal) → IsNoLength c e → length_at c ≡ Err e
no_length-fails c e w =
    let none : length_bytes w.first ≡ None = rw (lt-leb w.first 0x80 w.large, ne_eqb w.first 0x81 w.none.0, ne_eqb w.first 0x84 w.none.1, ne_eqb w.first 0x88 w.none.2) refl in
    ap (λ (left : List ℕ). length_of c.at left) w.stands ∙ ap (λ (o : Option ℕ). sized c.at w.first o w.rest) none ∙ ap (λ (y : OmfRefusal). refused {A = ℕ × Cursor} y) (sym w.is)

pub length_judges : Judges length_at a_length
length_judges = record {
  sound = length_sound;
  complete = length_complete;
  tells = λ c e bytes. (length-short c e bytes, λ w. elim w [ inl h ↦ length-fails c e h | inr h ↦ no_length-fails c e h ]);
}
