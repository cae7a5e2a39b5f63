-- Eight hexadecimal digits, two by two.
use Rattle.std.proofs.Common.{◌≡◌, ℕ, ◌+◌, ◌*◌, ◌/◌, ◌%◌, ◌<◌, ◌≤◌, ◌-◌, ◌^◌, zero, suc, true, List, [], ◌∷◌, ◌++◌, length, get_or, refl, sym, subst, ap, ◌∙◌, arith, append-nil}
use Rattle.std.specs.List.{AllByRecursion}
use Rattle.std.proofs.lemmas.Bool.Decides.{nat_tests}
use Rattle.std.proofs.lemmas.List.{length-append}
use Rattle.std.proofs.lemmas.Bool.{and_from}
use Rattle.dump_model.specs.Words.{is_in_word, no_break, IsWord, Begins, IsHex}
use Rattle.dump_model.proofs.WordLaws.{same-head, IsWords}
use Rattle.lx_types.specs.Escaped.{hex_digit, hex_byte, hex_address}

same-byte : (x b : ℕ) → b / 16 % 16 ≡ x / 16 % 16 → b % 16 ≡ x % 16 → hex_byte b ≡ hex_byte x
same-byte x b high low = ap (λ d. hex_digit d ∷ hex_digit (b % 16) ∷ []) high ∙ ap (λ d. hex_digit (x / 16 % 16) ∷ hex_digit d ∷ []) low

pub flags-told : (word : List ℕ) (a b c d : ℕ) → length word ≡ 8 → a < 256 → b < 256 → c < 256 → d < 256
    → get_or word 0 0 ∷ get_or word 1 0 ∷ [] ≡ hex_byte a → get_or word 2 0 ∷ get_or word 3 0 ∷ [] ≡ hex_byte b
    → get_or word 4 0 ∷ get_or word 5 0 ∷ [] ≡ hex_byte c → get_or word 6 0 ∷ get_or word 7 0 ∷ [] ≡ hex_byte d
    → word ≡ hex_address (a * 16777216 + b * 65536 + c * 256 + d)
flags-told [] a b c d count ha hb hc hd e f g h = absurd (omega arith)
flags-told (p ∷ []) a b c d count ha hb hc hd e f g h = absurd (omega arith)
flags-told (p ∷ q ∷ []) a b c d count ha hb hc hd e f g h = absurd (omega arith)
flags-told (p ∷ q ∷ r ∷ []) a b c d count ha hb hc hd e f g h = absurd (omega arith)
flags-told (p ∷ q ∷ r ∷ s ∷ []) a b c d count ha hb hc hd e f g h = absurd (omega arith)
flags-told (p ∷ q ∷ r ∷ s ∷ t ∷ []) a b c d count ha hb hc hd e f g h = absurd (omega arith)
flags-told (p ∷ q ∷ r ∷ s ∷ t ∷ u ∷ []) a b c d count ha hb hc hd e f g h = absurd (omega arith)
flags-told (p ∷ q ∷ r ∷ s ∷ t ∷ u ∷ v ∷ []) a b c d count ha hb hc hd e f g h = absurd (omega arith)
flags-told (p ∷ q ∷ r ∷ s ∷ t ∷ u ∷ v ∷ w ∷ x ∷ xs) a b c d count ha hb hc hd e f g h = absurd (omega arith)
flags-told (p ∷ q ∷ r ∷ s ∷ t ∷ u ∷ v ∷ w ∷ []) a b c d count ha hb hc hd e f g h =
    let n = a * 16777216 + b * 65536 + c * 256 + d in
    let first : p ∷ q ∷ [] ≡ hex_byte (n / 16777216) = e ∙ same-byte (n / 16777216) a (omega (arith, ha, hb, hc, hd)) (omega (arith, ha, hb, hc, hd)) in
    let second : r ∷ s ∷ [] ≡ hex_byte (n / 65536) = f ∙ same-byte (n / 65536) b (omega (arith, ha, hb, hc, hd)) (omega (arith, ha, hb, hc, hd)) in
    let third : t ∷ u ∷ [] ≡ hex_byte (n / 256) = g ∙ same-byte (n / 256) c (omega (arith, ha, hb, hc, hd)) (omega (arith, ha, hb, hc, hd)) in
    let fourth : v ∷ w ∷ [] ≡ hex_byte n = h ∙ same-byte n d (omega (arith, ha, hb, hc, hd)) (omega (arith, ha, hb, hc, hd)) in
    ap (λ x. x ++ r ∷ s ∷ t ∷ u ∷ v ∷ w ∷ []) first ∙ ap (λ x. hex_byte (n / 16777216) ++ (x ++ t ∷ u ∷ v ∷ w ∷ [])) second
    ∙ ap (λ x. hex_byte (n / 16777216) ++ (hex_byte (n / 65536) ++ (x ++ v ∷ w ∷ []))) third
    ∙ ap (λ x. hex_byte (n / 16777216) ++ (hex_byte (n / 65536) ++ (hex_byte (n / 256) ++ x))) fourth

-- ---- the digits

hex-in : (d : ℕ) → d < 16 → is_in_word (hex_digit d) ≡ true
hex-in d h = grind (arith, nat_tests)

pub digit-value : (d e : ℕ) → d < 16 → e < 16 → hex_digit d ≡ hex_digit e → d ≡ e
digit-value d e hd he is = grind (arith, nat_tests)

pub digits-of-byte : (b : ℕ) → AllByRecursion IsHex (hex_byte b)
digits-of-byte b = ((b / 16 % 16, omega arith, refl), ((b % 16, omega arith, refl), tt))

all-join : (xs ys : List ℕ) → AllByRecursion IsHex xs → AllByRecursion IsHex ys → AllByRecursion IsHex (xs ++ ys)
all-join [] ys hx hy = hy
all-join (x ∷ xs) ys hx hy = (hx.0, all-join xs ys hx.1 hy)

all-front : (xs ys : List ℕ) → AllByRecursion IsHex (xs ++ ys) → AllByRecursion IsHex xs
all-front [] ys h = tt
all-front (x ∷ xs) ys h = (h.0, all-front xs ys h.1)

pub address-digits : (n : ℕ) → AllByRecursion IsHex (hex_address n)
address-digits n =
    all-join (hex_byte (n / 16777216)) (hex_byte (n / 65536) ++ hex_byte (n / 256) ++ hex_byte n) (digits-of-byte (n / 16777216))
    (all-join (hex_byte (n / 65536)) (hex_byte (n / 256) ++ hex_byte n) (digits-of-byte (n / 65536))
    (all-join (hex_byte (n / 256)) (hex_byte n) (digits-of-byte (n / 256)) (digits-of-byte n)))

pub digits-word : (xs : List ℕ) → AllByRecursion IsHex xs → IsWord xs
digits-word [] h = refl
digits-word (x ∷ xs) h =
    and_from (is_in_word x) (no_break xs) (subst (λ b. is_in_word b ≡ true) (sym h.0.2) (hex-in h.0.0 h.0.1)) (digits-word xs h.1)

pub address-word : (n : ℕ) → IsWord (hex_address n)
address-word n = digits-word (hex_address n) (address-digits n)

-- ---- one number for eight digits

pub byte-one : (a b : ℕ) → a < 256 → b < 256 → (r s : List ℕ) → hex_byte a ++ r ≡ hex_byte b ++ s → (a ≡ b) × (r ≡ s)
byte-one a b ha hb r s is =
    let first = same-head (hex_digit (a / 16 % 16)) (hex_digit (b / 16 % 16)) (hex_digit (a % 16) ∷ r) (hex_digit (b % 16) ∷ s) is in
    let second = same-head (hex_digit (a % 16)) (hex_digit (b % 16)) r s first.1 in
    let high = digit-value (a / 16 % 16) (b / 16 % 16) (omega arith) (omega arith) first.0 in
    let low = digit-value (a % 16) (b % 16) (omega arith) (omega arith) second.0 in
    (omega (arith, high, low, ha, hb), second.1)

byte-low : (a : ℕ) → hex_byte a ≡ hex_byte (a % 256)
byte-low a = same-byte (a % 256) a (omega arith) (omega arith)

pub address-one : (m n : ℕ) → m < 2 ^ 32 → n < 2 ^ 32 → hex_address m ≡ hex_address n → m ≡ n
address-one m n hm hn is =
    let first = parts (m / 16777216) (n / 16777216) (hex_byte (m / 65536) ++ hex_byte (m / 256) ++ hex_byte m) (hex_byte (n / 65536) ++ hex_byte (n / 256) ++ hex_byte n) is in
    let second = parts (m / 65536) (n / 65536) (hex_byte (m / 256) ++ hex_byte m) (hex_byte (n / 256) ++ hex_byte n) first.1 in
    let third = parts (m / 256) (n / 256) (hex_byte m) (hex_byte n) second.1 in
    let fourth = parts m n [] [] (append-nil (hex_byte m) ∙ third.1 ∙ sym (append-nil (hex_byte n))) in
    omega (arith, first.0, second.0, third.0, fourth.0, hm, hn)
  where
    parts : (a b : ℕ) (r s : List ℕ) → hex_byte a ++ r ≡ hex_byte b ++ s → (a % 256 ≡ b % 256) × (r ≡ s)
    parts a b r s is =
        byte-one (a % 256) (b % 256) (omega arith) (omega arith) r s (ap (λ x. x ++ r) (sym (byte-low a)) ∙ is ∙ ap (λ x. x ++ s) (byte-low b))

pub flags-words : IsWords hex_address (λ n. n < 2 ^ 32)
flags-words = record { some = 0; inside = omega arith; word = λ n _. address-word n; one = address-one }

-- ---- fewer digits

pair-byte : (p q : ℕ) (hp : IsHex p) (hq : IsHex q) → p ∷ q ∷ [] ≡ hex_byte (hp.0 * 16 + hq.0)
pair-byte p q hp hq =
    ap (λ c. c ∷ q ∷ []) (hp.2 ∙ ap hex_digit (omega (arith, hp.1, hq.1)))
    ∙ ap (λ c. hex_digit ((hp.0 * 16 + hq.0) / 16 % 16) ∷ c ∷ []) (hq.2 ∙ ap hex_digit (omega (arith, hq.1)))

pub eight-digits : (xs : List ℕ) → length xs ≡ 8 → AllByRecursion IsHex xs → (n : ℕ) × (n < 2 ^ 32) × (xs ≡ hex_address n)
eight-digits [] count h = absurd (omega (arith, count))
eight-digits (p ∷ []) count h = absurd (omega (arith, count))
eight-digits (p ∷ q ∷ []) count h = absurd (omega (arith, count))
eight-digits (p ∷ q ∷ r ∷ []) count h = absurd (omega (arith, count))
eight-digits (p ∷ q ∷ r ∷ s ∷ []) count h = absurd (omega (arith, count))
eight-digits (p ∷ q ∷ r ∷ s ∷ t ∷ []) count h = absurd (omega (arith, count))
eight-digits (p ∷ q ∷ r ∷ s ∷ t ∷ u ∷ []) count h = absurd (omega (arith, count))
eight-digits (p ∷ q ∷ r ∷ s ∷ t ∷ u ∷ v ∷ []) count h = absurd (omega (arith, count))
eight-digits (p ∷ q ∷ r ∷ s ∷ t ∷ u ∷ v ∷ w ∷ x ∷ xs) count h = absurd (omega (arith, count))
eight-digits (p ∷ q ∷ r ∷ s ∷ t ∷ u ∷ v ∷ w ∷ []) count h =
    let hp = h.0 in
    let hq = h.1.0 in
    let hr = h.1.1.0 in
    let hs = h.1.1.1.0 in
    let ht = h.1.1.1.1.0 in
    let hu = h.1.1.1.1.1.0 in
    let hv = h.1.1.1.1.1.1.0 in
    let hw = h.1.1.1.1.1.1.1.0 in
    let a = hp.0 * 16 + hq.0 in
    let b = hr.0 * 16 + hs.0 in
    let c = ht.0 * 16 + hu.0 in
    let d = hv.0 * 16 + hw.0 in
    let ha : a < 256 = omega (arith, hp.1, hq.1) in
    let hb : b < 256 = omega (arith, hr.1, hs.1) in
    let hc : c < 256 = omega (arith, ht.1, hu.1) in
    let hd : d < 256 = omega (arith, hv.1, hw.1) in (
      a * 16777216 + b * 65536 + c * 256 + d,
      below a b c d ha hb hc hd,
      flags-told (p ∷ q ∷ r ∷ s ∷ t ∷ u ∷ v ∷ w ∷ []) a b c d (omega arith) ha hb hc hd (pair-byte p q hp hq) (pair-byte r s hr hs) (pair-byte t u ht hu)
          (pair-byte v w hv hw),
    )
  where
    below : (a b c d : ℕ) → a < 256 → b < 256 → c < 256 → d < 256 → a * 16777216 + b * 65536 + c * 256 + d < 2 ^ 32
    below a b c d ha hb hc hd = omega (arith, ha, hb, hc, hd)

zeros : ℕ → List ℕ
zeros zero = []
zeros (suc n) = 48 ∷ zeros n

zero-hex : IsHex 48
zero-hex = (0, omega arith, refl)

all-zeros : (n : ℕ) → AllByRecursion IsHex (zeros n)
unfolding zeros
all-zeros zero = tt
all-zeros (suc n) = (zero-hex, all-zeros n)

count-zeros : (n : ℕ) → length (zeros n) ≡ n
unfolding zeros
count-zeros zero = refl
count-zeros (suc n) = omega (arith, count-zeros n)

-- up to eight digits begin the text of a number
pub flags-begun : (word : List ℕ) → length word ≤ 8 → AllByRecursion IsHex word → Begins hex_address (λ n. n < 2 ^ 32) word
flags-begun word le h =
    let n = eight-digits (word ++ zeros (8 - length word)) (omega (arith, length-append word (zeros (8 - length word)), count-zeros (8 - length word), le))
    (all-join word (zeros (8 - length word)) h (all-zeros (8 - length word))) in
    (n.0, zeros (8 - length word), n.1, sym n.2)

address-length : (n : ℕ) → length (hex_address n) ≡ 8
address-length n = omega arith

-- and nothing else does
pub begun-flags : (word : List ℕ) → Begins hex_address (λ n. n < 2 ^ 32) word → (length word ≤ 8) × AllByRecursion IsHex word
begun-flags word b =
    let few : length word ≤ 8 = omega (arith, address-length b.0, ap length b.3, length-append word b.1) in
    (few, all-front word b.1 (subst (AllByRecursion IsHex) b.3 (address-digits b.0)))

-- eight digits are not the text of a number only where one is no digit
pub told-flags : (word : List ℕ) (n : ℕ) → word ≡ hex_address n → (length word ≡ 8) × AllByRecursion IsHex word
told-flags word n is = (ap length is ∙ address-length n, subst (AllByRecursion IsHex) (sym is) (address-digits n))
