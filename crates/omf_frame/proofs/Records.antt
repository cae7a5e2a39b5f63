-- A whole record's bytes are told from its length word, and bytes begin with one whole record at most.
use Rattle.std.proofs.Common.{◌≡◌, ◌≢◌, ℕ, zero, suc, ◌+◌, ◌-◌, ◌^◌, ◌<◌, ◌≤◌, List, [], ◌∷◌, ◌++◌, length, take, drop, get_or, inl, inr, refl, sym, ap, ◌∙◌, arith, length-append}
use Rattle.std.proofs.Math.Seq.{take-append_seam, drop-append_seam, take-suc, take-length}
use Rattle.lx_bytes.specs.LittleEndian.{AreBytes, little, little_bytes}
use Rattle.lx_bytes.proofs.Numbers.{little-little_bytes, little_bytes-little}
use Rattle.omf_frame.specs.Frame.{BeginsWhole, IsChecksum, record_bytes, record_sum}
use Rattle.omf_frame.specs.Delimited.{IsDelimited, length_word}
use Rattle.omf_frame.specs.Refusal.{IsCutOff, no_length, length_0, past_end}
use Rattle.std.proofs.lemmas.Bool.{cases_lt}
use Rattle.std.proofs.lemmas.List.{take-append-drop, length-take, get_or-take, get_or_past}

-- the front of two equal lists
append_one : (xs ys r s : List ℕ) → length xs ≡ length ys → xs ++ r ≡ ys ++ s → (xs ≡ ys) × (r ≡ s)
append_one xs ys r s long same =
    let front : xs ≡ ys =
    sym (take-append_seam xs r) ∙ ap (take (length xs)) same ∙ ap (λ (n : ℕ). take n (ys ++ s)) long ∙ take-append_seam ys s in
    let back : r ≡ s =
    sym (drop-append_seam xs r) ∙ ap (drop (length xs)) same ∙ ap (λ (n : ℕ). drop n (ys ++ s)) long ∙ drop-append_seam ys s in
    (front, back)

-- a whole record's bytes are as many as its length word says
pub IsDelimited-record_bytes : (ty : ℕ) (body : List ℕ) (checksum : ℕ) → length body + 1 < 2 ^ 16 → IsDelimited (record_bytes ty body checksum)
IsDelimited-record_bytes ty body checksum counted =
    let word : little (little_bytes 2 (length body + 1)) ≡ length body + 1 = little-little_bytes 2 (length body + 1) counted in
    omega (arith, word, length-append body (checksum ∷ []))

-- the length word stands in the front of the bytes
length_word-append : (xs r : List ℕ) → 3 ≤ length xs → length_word (xs ++ r) ≡ length_word xs
length_word-append [] r long = omega (arith, long)
length_word-append (a ∷ []) r long = omega (arith, long)
length_word-append (a ∷ b ∷ []) r long = omega (arith, long)
length_word-append (a ∷ b ∷ c ∷ xs) r long = refl

-- bytes begin with one delimited list at most
pub delimited_one : (xs ys r s : List ℕ) → IsDelimited xs → IsDelimited ys → xs ++ r ≡ ys ++ s → (xs ≡ ys) × (r ≡ s)
delimited_one xs ys r s dx dy same =
    let words = ap length_word same in
    let x = length_word-append xs r (omega (arith, dx)) in
    let y = length_word-append ys s (omega (arith, dy)) in
    append_one xs ys r s (omega (arith, dx, dy, words, x, y)) same

-- two whole records of the same bytes are one
pub record_bytes_one : (ty ty' : ℕ) (body body' : List ℕ) (c c' : ℕ) → record_bytes ty body c ≡ record_bytes ty' body' c' → (ty ≡ ty') × (body ≡ body') × (c ≡ c')
record_bytes_one ty ty' body body' c c' same =
    let tys = ap (λ (l : List ℕ). get_or l 0 0) same in
    let tails : body ++ c ∷ [] ≡ body' ++ c' ∷ [] = ap (drop 3) same in
    let lengths = ap length tails in
    let long : length body ≡ length body' = omega (arith, lengths, length-append body (c ∷ []), length-append body' (c' ∷ [])) in
    let both = append_one body body' (c ∷ []) (c' ∷ []) long tails in
    (tys, both.0, ap (λ (l : List ℕ). get_or l 0 0) both.1)

pub pair_of_bytes : (l h : ℕ) → l < 256 → h < 256 → AreBytes (l ∷ h ∷ [])
pair_of_bytes l h low high zero = low
pair_of_bytes l h low high (suc zero) = high
pair_of_bytes l h low high (suc (suc i)) = omega arith

-- delimited bytes of which k are contents are those of a whole record
record_bytes-from_contents :
    (bytes : List ℕ) (k last : ℕ) → AreBytes bytes → IsDelimited bytes → length bytes ≡ k + 4 → last ≡ suc (suc (suc k))
    → (bytes ≡ record_bytes (get_or bytes 0 0) (take k (drop 3 bytes)) (get_or bytes last 0)) × (length (take k (drop 3 bytes)) + 1 < 2 ^ 16)
record_bytes-from_contents [] k last fit delimited long end = absurd (omega (arith, long))
record_bytes-from_contents (t ∷ []) k last fit delimited long end = absurd (omega (arith, long))
record_bytes-from_contents (t ∷ l ∷ []) k last fit delimited long end = absurd (omega (arith, long))
record_bytes-from_contents (t ∷ l ∷ h ∷ xs) k last fit delimited long end =
    let low : l < 256 = fit 1 in
    let high : h < 256 = fit 2 in
    let count : length xs ≡ suc k = omega (arith, long) in
    let whole : take (suc k) xs ≡ xs = ap (λ (n : ℕ). take n xs) (sym count) ∙ take-length xs in
    let parts : take k xs ++ get_or xs k 0 ∷ [] ≡ xs = sym (take-suc xs k 0 (omega (arith, count))) ∙ whole in
    let body : length (take k xs) + 1 ≡ length xs = sym (length-append (take k xs) (get_or xs k 0 ∷ [])) ∙ ap length parts in
    let word : little (l ∷ h ∷ []) ≡ length (take k xs) + 1 = omega (arith, delimited, body) in
    let spelled : little_bytes 2 (length (take k xs) + 1) ≡ l ∷ h ∷ [] =
    ap (little_bytes 2) (sym word) ∙ little_bytes-little (l ∷ h ∷ []) (pair_of_bytes l h low high) in
    let joined : t ∷ l ∷ h ∷ xs ≡ record_bytes t (take k xs) (get_or xs k 0) =
    ap (λ (ys : List ℕ). t ∷ l ∷ h ∷ ys) (sym parts) ∙ ap (λ (ws : List ℕ). t ∷ ws ++ take k xs ++ get_or xs k 0 ∷ []) (sym spelled) in
    (rw end joined, omega (arith, word, low, high))

-- delimited bytes are those of a whole record, if there is a checksum byte
pub record_bytes-from_delimited :
    (bytes : List ℕ) → AreBytes bytes → IsDelimited bytes → 4 ≤ length bytes
    → (bytes ≡ record_bytes (get_or bytes 0 0) (take (length bytes - 1 - 3) (drop 3 bytes)) (get_or bytes (length bytes - 1) 0))
    × (length (take (length bytes - 1 - 3) (drop 3 bytes)) + 1 < 2 ^ 16)
record_bytes-from_delimited bytes fit delimited long =
    record_bytes-from_contents bytes (length bytes - 1 - 3) (length bytes - 1) fit delimited (omega (arith, long)) (omega (arith, long))

-- bytes begin with one whole record at most
pub whole_one :
    {bytes bytes' : List ℕ} {ty ty' : ℕ} {body body' : List ℕ} {c c' : ℕ} {rest rest' : List ℕ}
    → bytes ≡ bytes' → BeginsWhole bytes ty body c rest → BeginsWhole bytes' ty' body' c' rest' → (ty ≡ ty') × (body ≡ body') × (c ≡ c') × (rest ≡ rest')
whole_one {ty = ty} {ty' = ty'} {body = body} {body' = body'} {c = c} {c' = c'} {rest = rest} {rest' = rest'} same a b =
    let here = IsDelimited-record_bytes ty body c a.counted in
    let there = IsDelimited-record_bytes ty' body' c' b.counted in
    let ends = delimited_one (record_bytes ty body c) (record_bytes ty' body' c') rest rest' here there (sym a.joined ∙ same ∙ b.joined) in
    let parts = record_bytes_one ty ty' body body' c c' ends.0 in
    (parts.0, parts.1, parts.2, ends.1)

-- a checksum byte and a sum that are both not 0 are not right
pub not_checksum :
    {ty ty' : ℕ} {body body' : List ℕ} {c c' total : ℕ}
    → ty ≡ ty' → body ≡ body' → c ≡ c' → total ≡ record_sum ty body c → ¬ c ≡ 0 → ¬ total ≡ 0 → IsChecksum ty' body' c' → ⊥
not_checksum types bodies checksums sums checksum_not sum_not (inl zero_byte) = checksum_not (checksums ∙ zero_byte)
not_checksum types bodies checksums sums checksum_not sum_not (inr zero_sum) =
    sum_not (sums ∙ rw (types, bodies, checksums) zero_sum)

-- ---- records that are cut off

pub AreBytes-take : (n : ℕ) (bs : List ℕ) → AreBytes bs → AreBytes (take n bs)
AreBytes-take n bs h i =
    elim (cases_lt i n) [
      | inl lt ↦ rw (get_or-take n bs i 0 lt) (h i)
      | inr le ↦ rw (get_or_past (take n bs) i 0 (omega (arith, length-take n bs))) (omega arith)
    ]

-- a whole record has its length, which is not 0, and passes no end
pub cut_off-not : (bytes : List ℕ) (ty : ℕ) (body : List ℕ) (checksum : ℕ) (rest : List ℕ) → IsCutOff bytes → BeginsWhole bytes ty body checksum rest → ⊥
cut_off-not bytes ty body checksum rest cut whole =
    let delimited = IsDelimited-record_bytes ty body checksum whole.counted in
    let long : length (record_bytes ty body checksum) ≡ 4 + length body = omega (arith, length-append body (checksum ∷ [])) in
    let word : length_word bytes ≡ length body + 1 =
    ap length_word whole.joined ∙ length_word-append (record_bytes ty body checksum) rest (omega (arith, long)) ∙ (let e : length_word (record_bytes ty body checksum) ≡ length body + 1 = omega (arith, delimited, long) in e) in
    let all : length bytes ≡ 4 + length body + length rest = ap length whole.joined ∙ length-append (record_bytes ty body checksum) rest ∙ ap (λ (n : ℕ). n + length rest) long in
    elim cut [
      | no_length h ↦ omega (arith, h, all)
      | length_0 h ↦ omega (arith, h, word)
      | past_end h ↦ omega (arith, h, all, word)
    ]

-- the bytes that a length word tells, where they are there
front_whole : (bytes : List ℕ) → AreBytes bytes → 3 ≤ length bytes → 3 + length_word bytes ≤ length bytes → length_word bytes ≢ 0 → (ty checksum : ℕ) × (body rest : List ℕ) × BeginsWhole bytes ty body checksum rest
front_whole bytes fit three long some =
    let n : ℕ = 3 + length_word bytes in
    let front : List ℕ = take n bytes in
    let len : length front ≡ n = omega (arith, length-take n bytes, long) in
    let joined : bytes ≡ front ++ drop n bytes = sym (take-append-drop n bytes) in
    let word : length_word bytes ≡ length_word front = ap length_word joined ∙ length_word-append front (drop n bytes) (omega (arith, len)) in
    let one : 1 ≤ length_word bytes = positive (length_word bytes) some in
    let parts = record_bytes-from_delimited front (AreBytes-take n bytes fit) (omega (arith, len, word)) (omega (arith, len, one)) in (
      get_or front 0 0,
      get_or front (length front - 1) 0,
      take (length front - 1 - 3) (drop 3 front),
      drop n bytes,
      record {
        joined = joined ∙ ap (λ (xs : List ℕ). xs ++ drop n bytes) parts.0;
        counted = parts.1;
      },
    )
  where
    positive : (m : ℕ) → m ≢ 0 → 1 ≤ m
    positive zero h = absurd (h refl)
    positive (suc m) h = omega arith

pub cut_off-else : (bytes : List ℕ) → AreBytes bytes → ((ty checksum : ℕ) (body rest : List ℕ) → BeginsWhole bytes ty body checksum rest → ⊥) → IsCutOff bytes
cut_off-else bytes fit none =
    elim (cases_lt (length bytes) 3) [
      | inl few ↦ no_length few
      | inr three ↦ elim (cases_lt (length bytes) (3 + length_word bytes)) [
        | inl short ↦ past_end short
        | inr long ↦ by (length_word bytes) refl three long
      ]
    ]
  where
    by : (m : ℕ) → length_word bytes ≡ m → 3 ≤ length bytes → 3 + length_word bytes ≤ length bytes → IsCutOff bytes
    by zero e three long = length_0 e
    by (suc m) e three long =
        let w = front_whole bytes fit three long (λ z. omega (arith, e, z)) in
        absurd (none w.0 w.1 w.2 w.3 w.4)
