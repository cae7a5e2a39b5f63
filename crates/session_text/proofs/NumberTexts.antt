-- Numbers in decimal and bytes in hexadecimal are plain words, and are read again.
use Rattle.std.proofs.Common.{◌≡◌, ℕ, ◌+◌, ◌-◌, ◌*◌, ◌/◌, ◌%◌, ◌^◌, ◌<◌, ◌≤◌, true, false, cond, List, [], ◌∷◌, length, Option, Some, None, option_map, option_and_then, refl, ap, ◌∙◌, arith}
use Rattle.std.specs.Prelude.{◌==◌, ◌||◌, nat_lt, decimal}
use Rattle.std.specs.List.{AllByRecursion, list_all, fold}
use Rattle.std.proofs.lemmas.Bool.Decides.{nat_tests}
use Rattle.std.proofs.lemmas.Fmt.{decimal_nonempty, digits_decimal, digits_value-decimal, length-decimal-le}
use Rattle.std.proofs.lemmas.Str.Parse.{IsNumeralModel, IsDigitsTest, FoldsDigits, numerals_by_fold}
use Rattle.std.proofs.lemmas.Bool.{and_parts, and_from, le-ltb, lt-ltb, ne_eqb, cond-false, cond-true, or_from, and_right}
use Rattle.lx_types.specs.Escaped.{hex_digit}
use Rattle.session_model.specs.Lines.{is_digit, hex_value, decimal_value, digits_onto, is_hex, below, number_in, hex_bytes}
use Rattle.session_model.specs.Statements.{is_long, hex_in}
use Rattle.session_model.specs.declared.limits.TheConstants.{MAX_BYTES, MAX_WORD}
use Rattle.session_model.specs.Text.{bytes_word}
use Rattle.session_text.specs.Writable.{IsVisible, IsPlain, IsByte}

-- ---- digits

digit-in : (c : ℕ) → is_digit c ≡ true → (48 ≤ c) × (c ≤ 57)
digit-in c h = (grind (arith, nat_tests), grind (arith, nat_tests))

digit-is : (c : ℕ) → (48 ≤ c) × (c ≤ 57) → is_digit c ≡ true
digit-is c h = grind (arith, nat_tests)

abbrev value_of : ℕ → List ℕ → ℕ
value_of n ds = fold (λ v d. v * 10 + (d - 48)) n ds

our-digits : IsDigitsTest (λ ds. list_all is_digit ds ≡ true)
our-digits = record {
  empty = refl;
  parts = λ c cs h. (digit-in c (and_parts _ _ h).0, (and_parts _ _ h).1);
  more = λ c cs h k. and_from _ _ (digit-is c h) k;
}

our-value : FoldsDigits (λ start ds. value_of start ds)
our-value = record { empty = λ n. refl; more = λ n c cs h. refl }

our-numerals : IsNumeralModel (λ ds. list_all is_digit ds ≡ true) (value_of 0)
our-numerals = numerals_by_fold _ our-digits _ our-value

digits-read : (ds : List ℕ) (v : ℕ) → list_all is_digit ds ≡ true → digits_onto 10 decimal_value (Some v) ds ≡ Some (value_of v ds)
digits-read [] v h = refl
digits-read (d ∷ ds) v h =
    ap (λ o. digits_onto 10 decimal_value (option_map (λ digit. v * 10 + digit) o) ds) (cond-true (is_digit d) (Some (d - 48)) None (and_parts (is_digit d) (list_all is_digit ds) h).0)
    ∙ digits-read ds (v * 10 + (d - 48)) (and_parts (is_digit d) (list_all is_digit ds) h).1

not-hex : (ds : List ℕ) → list_all is_digit ds ≡ true → is_hex ds ≡ false
not-hex [] h = refl
not-hex (a ∷ []) h = refl
not-hex (a ∷ b ∷ ds) h =
    let digit = digit-in b (and_parts (is_digit b) (list_all is_digit ds) (and_parts (is_digit a) (list_all is_digit (b ∷ ds)) h).1).0 in
    and_right (a == 0x30) (b == 0x78) (ne_eqb b 0x78 (λ e. omega (arith, digit, e)))

number-of : (ds : List ℕ) (n : ℕ) → 0 < length ds → list_all is_digit ds ≡ true → value_of 0 ds ≡ n → n < 2 ^ 32 → number_in ds ≡ Some n
unfolding number_in
number-of [] n some h is small = absurd (omega arith)
number-of (d ∷ ds) n some h is small =
    ap (λ o. option_and_then (below (2 ^ 32)) o) (cond-false (is_hex (d ∷ ds)) _ _ (not-hex (d ∷ ds) h) ∙ digits-read (d ∷ ds) 0 h ∙ ap Some is)
    ∙ cond-true (nat_lt n (2 ^ 32)) _ _ (lt-ltb n (2 ^ 32) small)

pub number-read : (n : ℕ) → n < 2 ^ 32 → number_in (decimal n) ≡ Some n
number-read n small =
    let wide : n < 2 ^ 64 = omega arith in
    number-of (decimal n) n (decimal_nonempty n wide) (digits_decimal our-numerals n wide) (digits_value-decimal our-numerals n wide) small

pub number-short : (n : ℕ) → n < 2 ^ 32 → is_long (decimal n) ≡ false
number-short n small = let few = length-decimal-le 10 n (omega arith) (omega arith) (omega arith) in le-ltb MAX_WORD (length (decimal n)) (omega (arith, few))

digits-visible : (ds : List ℕ) → list_all is_digit ds ≡ true → AllByRecursion IsVisible ds
digits-visible [] h = tt
digits-visible (d ∷ ds) h =
    let digit = digit-in d (and_parts (is_digit d) (list_all is_digit ds) h).0 in
    ((omega (arith, digit.0), omega (arith, digit.1)), digits-visible ds (and_parts (is_digit d) (list_all is_digit ds) h).1)

pub number-plain : (n : ℕ) → n < 2 ^ 32 → IsPlain (decimal n)
number-plain n small =
    let wide : n < 2 ^ 64 = omega arith in
    record { some = decimal_nonempty n wide; visible = digits-visible (decimal n) (digits_decimal our-numerals n wide) }

pub ordinal-plain : (n : ℕ) → n < 2 ^ 32 → IsPlain (0x40 ∷ decimal n)
ordinal-plain n small = record { some = omega arith; visible = ((omega arith, omega arith), (number-plain n small).visible) }

pub ordinal-short : (n : ℕ) → n < 2 ^ 32 → is_long (0x40 ∷ decimal n) ≡ false
ordinal-short n small = let few = length-decimal-le 10 n (omega arith) (omega arith) (omega arith) in le-ltb MAX_WORD (length (0x40 ∷ decimal n)) (omega (arith, few))

-- ---- bytes

hex-digit_read : (d : ℕ) → d < 16 → hex_value (hex_digit d) ≡ Some d
hex-digit_read d h = grind (arith, nat_tests)

hex-digit_visible : (d : ℕ) → d < 16 → IsVisible (hex_digit d)
hex-digit_visible d h = (grind (arith, nat_tests), grind (arith, nat_tests))

abbrev joined : Option ℕ → Option ℕ → Option (List ℕ) → Option (List ℕ)
joined high low bytes = option_and_then (λ bs. option_and_then (λ h. option_map (λ l. (h * 16 + l) ∷ bs) low) high) bytes

bytes-read : (bytes : List ℕ) → AllByRecursion IsByte bytes → hex_bytes (bytes_word bytes) ≡ Some bytes
unfolding hex_bytes
bytes-read [] h = refl
bytes-read (b ∷ bytes) h =
    let high : b / 16 % 16 < 16 = omega arith in
    let low : b % 16 < 16 = omega arith in
    let byte : b < 256 = h.0 in
    let whole : b / 16 % 16 * 16 + b % 16 ≡ b = omega (arith, byte) in
    ap (λ bs. joined (hex_value (hex_digit (b / 16 % 16))) (hex_value (hex_digit (b % 16))) bs) (bytes-read bytes h.1)
    ∙ ap (λ o. joined o (hex_value (hex_digit (b % 16))) (Some bytes)) (hex-digit_read (b / 16 % 16) high)
    ∙ ap (λ o. joined (Some (b / 16 % 16)) o (Some bytes)) (hex-digit_read (b % 16) low)
    ∙ ap (λ b. Some (b ∷ bytes)) whole

pub hex-read : (bytes : List ℕ) → AllByRecursion IsByte bytes → 1 ≤ length bytes → length bytes ≤ MAX_BYTES → hex_in (bytes_word bytes) ≡ Some bytes
hex-read bytes h some few =
    ap (λ o. option_and_then (λ bs. cond ((length bs == 0) || nat_lt MAX_BYTES (length bs)) None (Some bs)) o) (bytes-read bytes h)
    ∙ cond-false _ _ _ (or_from (length bytes == 0) (nat_lt MAX_BYTES (length bytes)) (ne_eqb (length bytes) 0 (λ z. omega (arith, some, z))) (le-ltb MAX_BYTES (length bytes) few))

pub hex-plain : (bytes : List ℕ) → 1 ≤ length bytes → IsPlain (bytes_word bytes)
hex-plain [] some = absurd (omega arith)
hex-plain (b ∷ bytes) some = record { some = omega arith; visible = visible (b ∷ bytes) }
  where
    visible : (bytes : List ℕ) → AllByRecursion IsVisible (bytes_word bytes)
    visible [] = tt
    visible (b ∷ bytes) = (hex-digit_visible (b / 16 % 16) (omega arith), (hex-digit_visible (b % 16) (omega arith), visible bytes))
