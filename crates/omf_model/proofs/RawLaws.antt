-- A record's bytes: what is taken for a record is one, and a record is taken for what it is. "Record Format".
use Rattle.std.proofs.Common.{◌≡◌, ℕ, zero, suc, ◌+◌, ◌-◌, ◌/◌, ◌%◌, ◌<◌, ◌≤◌, Bool, true, false, cond, eqb, List, [], ◌∷◌, ◌++◌, length, take, drop, get_or, Result, Ok, Err, refl, sym, ap, subst, ◌∙◌, arith, inl, inr, append_assoc, length-append}
use Rattle.std.specs.Prelude.{◌⊎◌, ◌||◌}
use Rattle.std.proofs.Math.Seq.{take-suc, get_or-append_seam}
use Rattle.std.proofs.lemmas.Bool.{cases_lt, eqb-false, eqb-true, eq-eqb, ne_eqb, leb-true, le-leb, not-true, false_from_ne_true}
use Rattle.std.proofs.lemmas.List.{take_at, drop_at, take-append-drop, length-take}
use Rattle.lx_bytes.specs.Cursor.{Cursor}
use Rattle.lx_bytes.specs.LittleEndian.{AreBytes, little, little_bytes}
use Rattle.lx_bytes.proofs.Numbers.{little-little_bytes, little_bytes-little}
use Rattle.omf_frame.specs.Frame.{record_sum, IsChecksum, BeginsWhole, BeginsRecord}
use Rattle.omf_frame.specs.RecordType.{is_record_type}
use Rattle.omf_frame.specs.Delimited.{length_word}
use Rattle.omf_frame.specs.Refusal.{IsCutOff, no_length, length_0, past_end, Refuses}
use Rattle.omf_frame.specs.declared.refusal.FrameRefusal.{FrameRefusal}
use Rattle.omf_frame.specs.declared.refusal.FrameRefusal.TheVariants as framing
use Rattle.omf_frame.proofs.Records.{pair_of_bytes}
use Rattle.obj_types.specs.declared.refusal.OmfRefusal.{OmfRefusal}
use Rattle.obj_types.specs.declared.refusal.OmfRefusal.TheVariants.{Short, UnknownType, BadChecksum}
use Rattle.omf_model.specs.RawRecord.{RawRecord, raw_of, is_whole, whole_at, raw_at, sum_of, as_omf}
use Rattle.omf_fields.proofs.SpanLaws.{done, ok_is, bind_ok, checked_step}
use Rattle.omf_fields.proofs.FieldLaws.{guard_so, chosen}
use Rattle.omf_model.proofs.FixLaws.{and_true}
use Rattle.omf_model.proofs.DataLaws.{bool_cases}

-- the raw of these bytes at a cursor
abbrev pub raw : ℕ → ℕ → List ℕ → ℕ → List ℕ → RawRecord
raw at ty body checksum rest = record { at = at; ty = ty; contents = body; checksum = checksum; after = record { at = at + 4 + length body; left = rest } }

raw_is : (f : RawRecord) (at ty : ℕ) (body : List ℕ) (checksum : ℕ) (rest : List ℕ) → f.at ≡ at →
    f.ty ≡ ty → f.contents ≡ body → f.checksum ≡ checksum → f.after.at ≡ at + 4 + length body → f.after.left ≡ rest → f ≡ raw at ty body checksum rest
raw_is f at ty body checksum rest a b c d e g = λ i. record { at = a i; ty = b i; contents = c i; checksum = d i; after = record { at = e i; left = g i } }

-- the bytes after the length word, up to the checksum and after it
tail_parts : (k : ℕ) (xs : List ℕ) → suc k ≤ length xs → take k xs ++ get_or xs k 0 ∷ [] ++ drop (suc k) xs ≡ xs
tail_parts k xs long = ap (λ (ys : List ℕ). ys ++ drop (suc k) xs) (sym (take-suc xs k 0 (omega (arith, long)))) ∙ take-append-drop (suc k) xs

whole_begins : (t l h k : ℕ) (xs : List ℕ) → l < 256 → h < 256 → little (l ∷ h ∷ []) ≡ suc k → suc k ≤ length xs → BeginsWhole (t ∷ l ∷ h ∷ xs) t (take k xs) (get_or xs k 0) (drop (suc k) xs)
whole_begins t l h k xs low high word long =
    let body : length (take k xs) ≡ k = omega (arith, long, length-take k xs) in
    let spelled : little_bytes 2 (length (take k xs) + 1) ≡ l ∷ h ∷ [] =
    ap (λ (n : ℕ). little_bytes 2 n) (let e : length (take k xs) + 1 ≡ little (l ∷ h ∷ []) = omega (arith, body, word) in e)
    ∙ little_bytes-little (l ∷ h ∷ []) (pair_of_bytes l h low high) in
    record {
      joined = ap (λ (ys : List ℕ). t ∷ l ∷ h ∷ ys) (sym (tail_parts k xs long)) ∙ ap (λ (ws : List ℕ). t ∷ ws ++ take k xs ++ get_or xs k 0 ∷ [] ++ drop (suc k) xs) (sym spelled);
      counted = omega (arith, body, word, low, high);
    }

-- what is taken for a whole record
pub record IsRaw (c : Cursor) (f : RawRecord) : Type 0 where
  pub whole : BeginsWhole c.left f.ty f.contents f.checksum f.after.left
  pub place : f.at ≡ c.at
  pub after : f.after.at ≡ c.at + 4 + length f.contents

raw_found : (at t l h k : ℕ) (xs : List ℕ) → l < 256 → h < 256 → little (l ∷ h ∷ []) ≡ suc k → suc k ≤ length xs →
    (f : RawRecord) → raw_of (little (l ∷ h ∷ [])) (record { at = at; left = t ∷ l ∷ h ∷ xs }) ≡ f → IsRaw (record { at = at; left = t ∷ l ∷ h ∷ xs }) f
raw_found at t l h k xs low high word long f e =
    let len : ℕ = little (l ∷ h ∷ []) in
    let place : len + 2 ≡ suc (suc (suc k)) = omega (arith, word) in
    let beyond : 3 + len ≡ suc (suc (suc (suc k))) = omega (arith, word) in
    let count : len - 1 ≡ k = omega (arith, word) in
    let body : length (take k xs) ≡ k = omega (arith, long, length-take k xs) in
    let is : raw_of len (record { at = at; left = t ∷ l ∷ h ∷ xs }) ≡ raw at t (take k xs) (get_or xs k 0) (drop (suc k) xs) =
    raw_is (raw_of len (record { at = at; left = t ∷ l ∷ h ∷ xs })) at t (take k xs) (get_or xs k 0) (drop (suc k) xs) refl refl
    (ap (λ (n : ℕ). take n xs) count) (ap (λ (n : ℕ). get_or (t ∷ l ∷ h ∷ xs) n 0) place) (omega (arith, word, body)) (ap (λ (n : ℕ). drop n (t ∷ l ∷ h ∷ xs)) beyond) in
    subst (λ (g : RawRecord). IsRaw (record { at = at; left = t ∷ l ∷ h ∷ xs }) g) (sym is ∙ e)
    (record { whole = whole_begins t l h k xs low high word long; place = refl; after = refl })

abbrev whole_of : ℕ → List ℕ → Result RawRecord OmfRefusal
whole_of at left =
    let len : ℕ = little (take 2 (drop 1 left)) in
    cond (is_whole len left) (Ok (raw_of len (record { at = at; left = left }))) (Err (Short at))

whole_left : (at : ℕ) (left : List ℕ) (f : RawRecord) → AreBytes left → whole_of at left ≡ Ok f → IsRaw (record { at = at; left = left }) f
whole_left at [] f bytes e = absurd cc
whole_left at (t ∷ []) f bytes e = absurd cc
whole_left at (t ∷ l ∷ []) f bytes e = absurd cc
whole_left at (t ∷ l ∷ h ∷ xs) f bytes e =
    let len : ℕ = little (l ∷ h ∷ []) in
    let g = guard_so (is_whole len (t ∷ l ∷ h ∷ xs)) (Short at) (raw_of len (record { at = at; left = t ∷ l ∷ h ∷ xs })) f e in
    let a = and_true _ _ g.0 in
    let b = and_true _ _ a.0 in
    let some : 1 ≤ len = positive len (not-true _ b.1) in
    let fits : 3 + len ≤ length (t ∷ l ∷ h ∷ xs) = leb-true _ _ a.1 in
    raw_found at t l h (len - 1) xs (bytes 1) (bytes 2) (omega (arith, some)) (omega (arith, some, fits)) f g.1
  where
    positive : (n : ℕ) → eqb n 0 ≡ false → 1 ≤ n
    positive zero n = absurd cc
    positive (suc m) n = omega arith

pub whole_sound : (c : Cursor) (f : RawRecord) → AreBytes c.left → whole_at c ≡ Ok f → IsRaw c f
unfolding whole_at
whole_sound c f bytes e = whole_left c.at c.left f bytes e

-- ---- a whole record is taken so

tail_of : (body : List ℕ) (checksum : ℕ) (rest : List ℕ) → body ++ checksum ∷ [] ++ rest ≡ body ++ checksum ∷ rest
tail_of body checksum rest = append_assoc body (checksum ∷ []) rest

pub whole_complete : (c : Cursor) (ty : ℕ) (body : List ℕ) (checksum : ℕ) (rest : List ℕ) → BeginsWhole c.left ty body checksum rest → whole_at c ≡ Ok (raw c.at ty body checksum rest)
unfolding whole_at
whole_complete c ty body checksum rest w =
    let n : ℕ = length body + 1 in
    let lo : ℕ = n % 256 in
    let hi : ℕ = n / 256 % 256 in
    let tail : List ℕ = body ++ checksum ∷ rest in
    let all : c.left ≡ ty ∷ lo ∷ hi ∷ tail = w.joined ∙ ap (λ (ys : List ℕ). ty ∷ lo ∷ hi ∷ ys) (tail_of body checksum rest) in
    let word : little (lo ∷ hi ∷ []) ≡ n = little-little_bytes 2 n w.counted in
    let count : length tail ≡ length body + suc (length rest) = length-append body (checksum ∷ rest) in
    let is : is_whole n (ty ∷ lo ∷ hi ∷ tail) ≡ true =
    rw (le-leb 3 (length (ty ∷ lo ∷ hi ∷ tail)) (omega arith), ne_eqb n 0 (λ z. omega (arith, z)), le-leb (3 + n) (length (ty ∷ lo ∷ hi ∷ tail)) (omega (arith, count))) refl in
    let beyond : 3 + n ≡ suc (suc (suc (length body + 1))) = omega arith in
    let rest_is : drop (length body + 1) tail ≡ rest = ap (λ (ys : List ℕ). drop (length body + 1) ys) (sym (tail_of body checksum rest))
    ∙ drop_at (body ++ checksum ∷ []) rest (length body + 1) (length-append body (checksum ∷ [])) in
    let found : raw_of n (record { at = c.at; left = ty ∷ lo ∷ hi ∷ tail }) ≡ raw c.at ty body checksum rest =
    raw_is (raw_of n (record { at = c.at; left = ty ∷ lo ∷ hi ∷ tail })) c.at ty body checksum rest refl refl
    (ap (λ (k : ℕ). take k tail) (let e : n - 1 ≡ length body = omega arith in e) ∙ take_at body (checksum ∷ rest) (length body) refl)
    (ap (λ (k : ℕ). get_or (ty ∷ lo ∷ hi ∷ tail) k 0) (let e : n + 2 ≡ suc (suc (suc (length body))) = omega arith in e) ∙ get_or-append_seam body checksum rest 0)
    (omega arith)
    (ap (λ (k : ℕ). drop k (ty ∷ lo ∷ hi ∷ tail)) beyond ∙ rest_is) in
    let at_bytes : whole_of c.at (ty ∷ lo ∷ hi ∷ tail) ≡ Ok (raw c.at ty body checksum rest) = rw (word, is, found) refl in
    subst (λ (ys : List ℕ). whole_of c.at ys ≡ done (raw c.at ty body checksum rest)) (sym all) at_bytes

-- ---- type and checksum

pub record IsGoodRaw (c : Cursor) (f : RawRecord) : Type 0 where
  pub is : IsRaw c f
  pub known : is_record_type f.ty ≡ true
  pub right : IsChecksum f.ty f.contents f.checksum

right_from : (checksum total : ℕ) → (eqb checksum 0 || eqb total 0) ≡ true → (checksum ≡ 0) ⊎ (total ≡ 0)
right_from checksum total e =
    elim (bool_cases (eqb checksum 0)) [
      | inl h ↦ inl (eqb-true _ _ h)
      | inr h ↦ let second : (false || eqb total 0) ≡ true = subst (λ (b : Bool). (b || eqb total 0) ≡ true) h e in inr (eqb-true _ _ second)
    ]

right_again : (checksum total : ℕ) → (checksum ≡ 0) ⊎ (total ≡ 0) → (eqb checksum 0 || eqb total 0) ≡ true
right_again checksum total h =
    elim h [
      | inl z ↦ rw (eq-eqb checksum 0 z) refl
      | inr z ↦ rw (eq-eqb total 0 z) (elim (eqb checksum 0) as (λ b. (b || true) ≡ true) [ true ↦ refl | false ↦ refl ])
    ]

pub raw_sound : (c : Cursor) (f : RawRecord) → AreBytes c.left → raw_at c ≡ Ok f → IsGoodRaw c f
unfolding raw_at
raw_sound c f bytes e =
    let a = bind_ok (whole_at c) _ f e in
    let k1 = checked_step (is_record_type a.0.ty) _ _ f a.2 in
    let k2 = checked_step (eqb a.0.checksum 0 || eqb (sum_of a.0) 0) _ _ f k1.1 in
    subst (λ (g : RawRecord). IsGoodRaw c g) (ok_is a.0 f k2.1)
    (record { is = whole_sound c a.0 bytes a.1; known = k1.0; right = right_from a.0.checksum (sum_of a.0) k2.0 })

pub raw_complete : (c : Cursor) (ty : ℕ) (body : List ℕ) (checksum : ℕ) (rest : List ℕ) →
    BeginsWhole c.left ty body checksum rest → is_record_type ty ≡ true → IsChecksum ty body checksum → raw_at c ≡ Ok (raw c.at ty body checksum rest)
unfolding raw_at
raw_complete c ty body checksum rest whole known right =
    rw (whole_complete c ty body checksum rest whole, known, right_again checksum (record_sum ty body checksum) right) refl

-- ---- what is refused

refusal_is : (x y : OmfRefusal) → (let r : Result RawRecord OmfRefusal = Err x in r) ≡ Err y → x ≡ y
refusal_is x y e = cc

pub whole_short : (c : Cursor) (f : OmfRefusal) → whole_at c ≡ Err f → Short c.at ≡ f
unfolding whole_at
whole_short c f e =
    elim (chosen (is_whole (little (take 2 (drop 1 c.left))) c.left) (Ok (raw_of (little (take 2 (drop 1 c.left))) c)) (Err (Short c.at)) (Err f) e) [
      | inl h ↦ absurd cc
      | inr h ↦ refusal_is (Short c.at) f h.1
    ]

-- what a whole record is, by its test
whole_parts : (len : ℕ) (bytes : List ℕ) → is_whole len bytes ≡ true → (3 ≤ length bytes) × (eqb len 0 ≡ false) × (3 + len ≤ length bytes)
whole_parts len bytes e =
    let a = and_true _ _ e in
    let b = and_true _ _ a.0 in
    (leb-true _ _ b.0, not-true _ b.1, leb-true _ _ a.1)

not_whole : (bytes : List ℕ) → IsCutOff bytes → is_whole (length_word bytes) bytes ≡ true → ⊥
not_whole bytes (no_length h) e = omega (arith, h, (whole_parts _ bytes e).0)
not_whole bytes (length_0 h) e = eqb-false _ _ (whole_parts _ bytes e).1 h
not_whole bytes (past_end h) e = omega (arith, h, (whole_parts _ bytes e).2)

pub cut_off : (c : Cursor) → IsCutOff c.left → whole_at c ≡ Err (Short c.at)
unfolding whole_at
cut_off c cut = rw (false_from_ne_true (is_whole (length_word c.left) c.left) (not_whole c.left cut)) refl

cut_off_from : (bytes : List ℕ) → is_whole (length_word bytes) bytes ≡ false → IsCutOff bytes
cut_off_from bytes e =
    elim (cases_lt (length bytes) 3) [
      | inl few ↦ no_length few
      | inr three ↦ elim (bool_cases (eqb (length_word bytes) 0)) [
        | inl none ↦ length_0 (eqb-true _ _ none)
        | inr some ↦ elim (cases_lt (length bytes) (3 + length_word bytes)) [
          | inl short ↦ past_end short
          | inr long ↦
              let whole : is_whole (length_word bytes) bytes ≡ true = rw (le-leb 3 (length bytes) three, some, le-leb (3 + length_word bytes) (length bytes) long) refl in
              let bad : true ≡ false = sym whole ∙ e in absurd cc
        ]
      ]
    ]

pub whole_cut : (c : Cursor) (f : OmfRefusal) → whole_at c ≡ Err f → IsCutOff c.left
unfolding whole_at
whole_cut c f e =
    elim (chosen (is_whole (length_word c.left) c.left) (Ok (raw_of (length_word c.left) c)) (Err (Short c.at)) (Err f) e) [
      | inl h ↦ absurd cc
      | inr h ↦ cut_off_from c.left h.0
    ]

wrong_again : (checksum total : ℕ) → (((checksum ≡ 0) ⊎ (total ≡ 0)) → ⊥) → (eqb checksum 0 || eqb total 0) ≡ false
wrong_again checksum total wrong = rw (ne_eqb checksum 0 (λ z. wrong (inl z)), ne_eqb total 0 (λ z. wrong (inr z))) refl

at_place : {A : Type 0} (x y : ℕ) (f : ℕ → OmfRefusal) → x ≡ y → (let r : Result A OmfRefusal = Err (f y) in r) ≡ Err (f x)
at_place x y f e = ap (λ (n : ℕ). Err (f n)) (sym e)

-- The raw's refusal is what is read there.
pub raw_refused : (c : Cursor) (refusal : FrameRefusal) → Refuses c refusal → raw_at c ≡ Err (as_omf refusal)
unfolding raw_at
raw_refused c (framing.Short at) h = rw (cut_off c h.1) (at_place at c.at (λ n. Short n) h.0)
raw_refused c (framing.UnknownType at ty) h =
    rw (whole_complete c ty h.1.body h.1.checksum h.1.rest h.1.whole, false_from_ne_true (is_record_type ty) h.1.unknown) (at_place at c.at (λ n. UnknownType n ty) h.0)
raw_refused c (framing.BadChecksum at total) h =
    rw (whole_complete c h.1.ty h.1.body h.1.checksum h.1.rest h.1.whole, h.1.known, wrong_again h.1.checksum (record_sum h.1.ty h.1.body h.1.checksum) h.1.wrong)
    (λ i. Err (BadChecksum (sym h.0 i) (sym h.1.sum i)))

-- A record that begins there is the raw that is read.
pub raw_begun : (c : Cursor) (ty : ℕ) (body rest : List ℕ) (b : BeginsRecord c.left ty body rest) → raw_at c ≡ Ok (raw c.at ty body b.checksum rest)
raw_begun c ty body rest b = raw_complete c ty body b.checksum rest b.whole b.known b.right
