-- Each field that is read fails exactly where it passes the end or has a value that is not allowed.
use Rattle.std.proofs.Common.{◌≡◌, ◌≢◌, ℕ, ◌+◌, ◌/◌, ◌≤◌, Bool, true, false, ltb, List, [], ◌∷◌, ◌++◌, length, Ok, Err, refl, sym, ap, subst, ◌∙◌, arith, inl, inr, length-append}
use Rattle.std.specs.Prelude.{◌⊎◌}
use Rattle.std.proofs.lemmas.Bool.{lt-ltb, le-ltb, cases_Bool}
use Rattle.lx_bytes.specs.Cursor.{Cursor}
use Rattle.lx_bytes.specs.LittleEndian.{AreBytes}
use Rattle.lx_bytes.proofs.Numbers.{length-little_bytes}
use Rattle.obj_types.specs.declared.refusal.OmfRefusal.{OmfRefusal}
use Rattle.obj_types.specs.declared.refusal.OmfRefusal.TheVariants.{Short, BadIndex}
use Rattle.lx_types.specs.Answers.{◌>>=◌}
use Rattle.omf_fields.specs.Fields.{Reading, byte_of, byte_at, number_at, name_of, name_at, index_of, index_at, is_among, checked, index_below, index_or_zero}
use Rattle.omf_fields.specs.Forms.{Form, byte, number, name, index}
use Rattle.omf_fields.specs.Faults.{PassesEnd, IsNoIndex}
use Rattle.omf_fields.proofs.SpanLaws.{Spans, Sound, Complete, ok_is, bind_ok}
use Rattle.omf_fields.proofs.FieldLaws.{among, among_or_zero, is_among_index, is_among_zero, byte_sound, byte_complete, number_sound, number_complete, name_sound, name_complete, index_sound, index_complete}
use Rattle.omf_fields.proofs.FaultLaws.{byte-short, number-short, name-short, index-short}
use Rattle.omf_model.proofs.ModuleLaws.{bind_err}
use Rattle.omf_faults.specs.FieldParts.{field, a_byte, a_number, a_name, index_with, index_from_one, index_or_none}
use Rattle.omf_faults.proofs.Told.{Judges, refused, ok_no_err, err_bind}

-- ---- what is left, and what is missing of a field

pub some-missing : (missing : List ℕ) → missing ≢ [] → 1 ≤ length missing
some-missing [] h = absurd (h refl)
some-missing (b ∷ missing) h = omega arith

pub short_is : {A : Type 0} (at : ℕ) (e : OmfRefusal) → e ≡ Short at → refused {A = A} (Short at) ≡ Err e
short_is {A} at e is = ap (λ (y : OmfRefusal). refused {A = A} y) (sym is)

missing_of : {A : Type 0} (form : A → Form) (c : Cursor) (e : OmfRefusal) (w : PassesEnd form c e) → length (c.left ++ w.missing) ≡ length c.left + length w.missing
missing_of form c e w = length-append c.left w.missing

-- ---- a byte, a number, a name

byte-fails : (c : Cursor) (e : OmfRefusal) → PassesEnd byte c e → byte_at c ≡ Err e
byte-fails c e w = of c.at c.left w.missing (some-missing w.missing w.some) (ap (λ (xs : List ℕ). length xs) w.so.1) w.is
  where
    of : (at : ℕ) (left missing : List ℕ) → 1 ≤ length missing → length (left ++ missing) ≡ 1 → e ≡ Short at → byte_of at left ≡ Err e
    of at [] missing some all is = short_is at e is
    of at (b ∷ rest) missing some all is = absurd (omega (arith, some, all, length-append rest missing))

pub byte_judges : Judges byte_at a_byte
byte_judges = record { sound = byte_sound; complete = byte_complete; tells = λ c e bytes. (byte-short c e, byte-fails c e) }

number-fails : (n : ℕ) (c : Cursor) (e : OmfRefusal) → PassesEnd (number n) c e → number_at n c ≡ Err e
number-fails n c e w =
    let all : length (c.left ++ w.missing) ≡ n = ap (λ (xs : List ℕ). length xs) w.so.1 ∙ length-little_bytes n w.value in
    let few : ltb (length c.left) n ≡ true = lt-ltb _ _ (omega (arith, all, missing_of (number n) c e w, some-missing w.missing w.some)) in
    rw few (short_is c.at e w.is)

pub number_judges : (n : ℕ) → Judges (number_at n) (a_number n)
number_judges n = record { sound = number_sound n; complete = number_complete n; tells = λ c e bytes. (number-short n c e bytes, number-fails n c e) }

name-fails : (c : Cursor) (e : OmfRefusal) → PassesEnd name c e → name_at c ≡ Err e
name-fails c e w = of c.at c.left w.missing (some-missing w.missing w.some) w.value w.so.1 w.is
  where
    of : (at : ℕ) (left missing : List ℕ) → 1 ≤ length missing → (text : List ℕ) → left ++ missing ≡ length text ∷ text → e ≡ Short at → name_of at left ≡ Err e
    of at [] missing some text so is = short_is at e is
    of at (n ∷ rest) missing some text so is =
        let first : n ≡ length text = cc in
        let others : rest ++ missing ≡ text = cc in
        let few : ltb (length rest) n ≡ true = lt-ltb _ _ (omega (arith, first, some, ap (λ (xs : List ℕ). length xs) others, length-append rest missing)) in
        rw few (short_is at e is)

pub name_judges : Judges name_at a_name
name_judges = record { sound = name_sound; complete = name_complete; tells = λ c e bytes. (name-short c e bytes, name-fails c e) }

-- ---- indices

index-fails : (c : Cursor) (e : OmfRefusal) → PassesEnd index c e → index_at c ≡ Err e
index-fails c e w = of c.at c.left w.missing (some-missing w.missing w.some) w.value w.so w.is
  where
    of : (at : ℕ) (left missing : List ℕ) → 1 ≤ length missing → (i : ℕ) → index i (left ++ missing) → e ≡ Short at → index_of at left ≡ Err e
    of at [] missing some i so is = short_is at e is
    of at (b ∷ []) missing some i (inl h) is = absurd (omega (arith, some, ap (λ (xs : List ℕ). length xs) h.1))
    of at (b ∷ []) missing some i (inr h) is =
        let large : b ≡ 128 + i / 256 = (let both = h.1 in cc) in
        rw (le-ltb b 128 (omega (arith, large))) (short_is at e is)
    of at (b ∷ low ∷ rest) missing some i (inl h) is = absurd (omega (arith, ap (λ (xs : List ℕ). length xs) h.1))
    of at (b ∷ low ∷ rest) missing some i (inr h) is = absurd (omega (arith, some, ap (λ (xs : List ℕ). length xs) h.1, length-append rest missing))

pub index_judges : Judges index_at (field index)
index_judges = record { sound = index_sound; complete = index_complete; tells = λ c e bytes. (index-short c e bytes, index-fails c e) }

-- an index that is picked where it is allowed, and refused at its place where it is not
abbrev pub Picks : (ℕ → ℕ × Cursor → Reading ℕ) → (ℕ → Type 0) → ℕ → Type 0
Picks pick Allowed have = (at : ℕ) (x : ℕ × Cursor) → ((pick at x ≡ Ok x) × Allowed x.0) ⊎ ((pick at x ≡ Err (BadIndex at x.0 have)) × (Allowed x.0 → ⊥))

pub bad_index_is : (d e : OmfRefusal) → refused {A = ℕ × Cursor} d ≡ Err e → e ≡ d
bad_index_is d e is = let same : d ≡ e = cc in sym same

pub index_with_judges : (pick : ℕ → ℕ × Cursor → Reading ℕ) (Allowed : ℕ → Type 0) (have : ℕ) → Picks pick Allowed have → Judges (λ c. index_at c >>= pick c.at) (index_with Allowed have)
index_with_judges pick Allowed have picks = record { sound = sound; complete = complete; tells = λ c e bytes. (to c e bytes, from c e) }
  where
    sound : Sound (λ c. index_at c >>= pick c.at) index Allowed
    sound c x d bytes e =
        let a = bind_ok (index_at c) (pick c.at) (x, d) e in
        elim (picks c.at a.0) [
          | inl h ↦
              let t = index_sound c a.0.0 a.0.1 bytes a.1 in
              subst (λ (q : ℕ × Cursor). Spans (index q.0) c q.1 × Allowed q.0) (ok_is a.0 (x, d) (sym h.0 ∙ a.2)) (t.0, h.1)
          | inr h ↦ let both : refused {A = ℕ × Cursor} (BadIndex c.at a.0.0 have) ≡ Ok (x, d) = sym h.0 ∙ a.2 in absurd cc
        ]

    complete : Complete (λ c. index_at c >>= pick c.at) index Allowed
    complete c x d t ok =
        elim (picks c.at (x, d)) [
          | inl h ↦ ap (λ (r : Reading ℕ). r >>= pick c.at) (index_complete c x d t tt) ∙ h.0
          | inr h ↦ absurd (h.1 ok)
        ]

    to : (c : Cursor) (e : OmfRefusal) → AreBytes c.left → (index_at c >>= pick c.at) ≡ Err e → PassesEnd index c e ⊎ IsNoIndex Allowed have c e
    to c e bytes is =
        elim (bind_err (index_at c) (pick c.at) e is) [
          | inl none ↦ inl (index-short c e bytes none)
          | inr x ↦ elim (picks c.at x.0) [
            | inl h ↦ absurd (ok_no_err x.0 e (sym h.0 ∙ x.2))
            | inr h ↦ inr (record {
              index_there = x.0.0;
              after = x.0.1;
              spelled = (index_sound c x.0.0 x.0.1 bytes x.1).0;
              is = bad_index_is (BadIndex c.at x.0.0 have) e (sym h.0 ∙ x.2);
              not_allowed = h.1;
            })
          ]
        ]

    from : (c : Cursor) (e : OmfRefusal) → PassesEnd index c e ⊎ IsNoIndex Allowed have c e → (index_at c >>= pick c.at) ≡ Err e
    from c e (inl w) = err_bind (index_at c) (pick c.at) e (index-fails c e w)
    from c e (inr w) =
        elim (picks c.at (w.index_there, w.after)) [
          | inl h ↦ absurd (w.not_allowed h.1)
          | inr h ↦ ap (λ (r : Reading ℕ). r >>= pick c.at) (index_complete c w.index_there w.after w.spelled tt) ∙ h.0 ∙ ap (λ (y : OmfRefusal). refused {A = ℕ × Cursor} y) (sym w.is)
        ]

pub not_both : {X : Type 0} (b : Bool) → b ≡ true → b ≡ false → X
not_both b is isnt = let both : true ≡ false = sym is ∙ isnt in absurd cc

below_picks : (have : ℕ) → Picks (checked false have) (λ i. (1 ≤ i) × (i ≤ have)) have
below_picks have at x =
    elim (cases_Bool (is_among false have x.0)) [
      | inl h ↦ inl (rw h refl, among have x.0 h)
      | inr h ↦ inr (rw h refl, λ a. not_both (is_among false have x.0) (is_among_index have x.0 a.0 a.1) h)
    ]

pub below_judges : (have : ℕ) → Judges (index_below have) (index_from_one have)
unfolding index_below
below_judges have = index_with_judges (checked false have) (λ i. (1 ≤ i) × (i ≤ have)) have (below_picks have)

or_none_picks : (have : ℕ) → Picks (checked true have) (λ i. i ≤ have) have
or_none_picks have at x =
    elim (cases_Bool (is_among true have x.0)) [
      | inl h ↦ inl (rw h refl, among_or_zero have x.0 h)
      | inr h ↦ inr (rw h refl, λ a. not_both (is_among true have x.0) (is_among_zero have x.0 a) h)
    ]

pub or_none_judges : (have : ℕ) → Judges (index_or_zero have) (index_or_none have)
unfolding index_or_zero
or_none_judges have = index_with_judges (checked true have) (λ i. i ≤ have) have (or_none_picks have)
