-- How many lines there are: each word is free of LF, so each line has one.
use Rattle.std.specs.Prelude.{◌≡◌, ℕ, zero, suc, ◌+◌, ◌/◌, ◌%◌, ◌<◌, ◌==◌, nat_lt, Bool, true, false, cond, List, [], ◌∷◌, ◌++◌, length, Option, Some, None, decimal, refl}
use Rattle.std.specs.List.{AllByRecursion, sum_by, flat_map, filter_map, cons_option}
use Rattle.std.specs.Fmt.{digits, digits_onto, digit_glyph}
use Rattle.std.proofs.Common.{ap, arith}
use Rattle.std.proofs.lemmas.List.Sums.{sum_by-cons, sum_by-append}
use Rattle.lx_types.specs.Escaped.{hex_digit, hex_byte, is_plain, escaped_byte, escaped, hex_address}
use Rattle.session_model.specs.Text.{words, line_of}
use Rattle.dump_model.specs.Lines.{name_word}

abbrev is_end : ℕ → ℕ
is_end b = cond (b == 0x0A) 1 0

abbrev pub ends : List ℕ → ℕ
ends text = sum_by is_end text

-- No LF is in it.
abbrev pub IsFree : List ℕ → Type 0
IsFree text = ends text ≡ 0

pub ends-append : (a b : List ℕ) → ends (a ++ b) ≡ ends a + ends b
ends-append a b = sum_by-append is_end a b

ends-cons : (b : ℕ) (text : List ℕ) → ends (b ∷ text) ≡ is_end b + ends text
ends-cons b text = sum_by-cons is_end b text

pub free-append : (a b : List ℕ) → IsFree a → IsFree b → IsFree (a ++ b)
free-append a b ha hb = let e = ends-append a b in omega (arith, e, ha, hb)

free-cons : (b : ℕ) (text : List ℕ) → is_end b ≡ 0 → IsFree text → IsFree (b ∷ text)
free-cons b text hb ht = let e = ends-cons b text in omega (arith, e, hb, ht)

greater : (b : ℕ) → 0x0A < b → is_end b ≡ 0
greater b h = let no : (b == 0x0A) ≡ false = grind (arith, h) in ap (λ (t : Bool). cond t 1 0) no

-- ---- numbers

glyph_free : (d : ℕ) → is_end (digit_glyph false d) ≡ 0
glyph_free d = by (nat_lt d 10)
  where
    by : (t : Bool) → is_end (cond t (48 + d) (87 + d)) ≡ 0
    by true = greater (48 + d) (omega arith)
    by false = greater (87 + d) (omega arith)

onto_free : (k n : ℕ) (acc : List ℕ) → IsFree acc → IsFree (digits_onto k 10 false n acc)
onto_free zero n acc h = h
onto_free (suc k) n acc h =
    by (n / 10 == 0) (free-cons (digit_glyph false (n % 10)) acc (glyph_free (n % 10)) h) (λ g. onto_free k (n / 10) (digit_glyph false (n % 10) ∷ acc) g)
  where
    by : (t : Bool) → IsFree (digit_glyph false (n % 10) ∷ acc) → (IsFree (digit_glyph false (n % 10) ∷ acc) → IsFree (digits_onto k 10 false (n / 10) (digit_glyph false (n % 10) ∷ acc)))
        → IsFree (cond t (digit_glyph false (n % 10) ∷ acc) (digits_onto k 10 false (n / 10) (digit_glyph false (n % 10) ∷ acc)))
    by true one more = one
    by false one more = more one

pub decimal_free : (n : ℕ) → IsFree (decimal n)
unfolding digits
decimal_free n = onto_free 64 n [] refl

digit_free : (d : ℕ) → is_end (hex_digit d) ≡ 0
digit_free d = by (nat_lt d 10)
  where
    by : (t : Bool) → is_end (cond t (0x30 + d) (0x37 + d)) ≡ 0
    by true = greater (0x30 + d) (omega arith)
    by false = greater (0x37 + d) (omega arith)

hex_free : (b : ℕ) → IsFree (hex_byte b)
hex_free b =
    free-cons (hex_digit (b / 16 % 16)) (hex_digit (b % 16) ∷ []) (digit_free (b / 16 % 16)) (free-cons (hex_digit (b % 16)) [] (digit_free (b % 16)) refl)

pub address_free : (a : ℕ) → IsFree (hex_address a)
address_free a =
    let two = free-append (hex_byte (a / 0x100)) (hex_byte a) (hex_free (a / 0x100)) (hex_free a) in
    let three = free-append (hex_byte (a / 0x1_0000)) (hex_byte (a / 0x100) ++ hex_byte a) (hex_free (a / 0x1_0000)) two in
    free-append (hex_byte (a / 0x100_0000)) (hex_byte (a / 0x1_0000) ++ hex_byte (a / 0x100) ++ hex_byte a) (hex_free (a / 0x100_0000)) three

-- ---- names

plain_free : (b : ℕ) → is_plain b ≡ true → is_end b ≡ 0
plain_free b h = greater b (grind (arith, h))

byte_free : (b : ℕ) → IsFree (escaped_byte b)
byte_free b = by (is_plain b) refl
  where
    by : (t : Bool) → is_plain b ≡ t → IsFree (cond t (b ∷ []) (0x25 ∷ hex_byte b))
    by true h = free-cons b [] (plain_free b h) refl
    by false h = free-cons 0x25 (hex_byte b) refl (hex_free b)

escaped_free : (name : List ℕ) → IsFree (escaped name)
escaped_free [] = refl
escaped_free (b ∷ name) = free-append (escaped_byte b) (escaped name) (byte_free b) (escaped_free name)

pub name_free : (name : List ℕ) → IsFree (name_word name)
name_free [] = refl
name_free (b ∷ name) = escaped_free (b ∷ name)

-- ---- lines

words_free : (ws : List (List ℕ)) → AllByRecursion IsFree ws → IsFree (words ws)
words_free [] all = refl
words_free (w ∷ []) all = all.0
words_free (w ∷ v ∷ others) all =
    free-append w (0x20 ∷ words (v ∷ others)) all.0 (free-cons 0x20 (words (v ∷ others)) refl (words_free (v ∷ others) all.1))

-- A line of words that are free of LF is one line.
pub one_line : (ws : List (List ℕ)) → AllByRecursion IsFree ws → ends (line_of ws) ≡ 1
one_line ws all =
    let e = ends-append (words ws) (0x0A ∷ []) in let h = words_free ws all in omega (arith, e, h)

pub code_free : (text : List ℕ) → ends text ≡ 0 → IsFree text
code_free text h = h

-- ---- lists of lines

pub each_one : {X : Type 0} (line : X → List ℕ) → ((x : X) → ends (line x) ≡ 1) → (xs : List X) → ends (flat_map line xs) ≡ length xs
each_one line one [] = refl
each_one line one (x ∷ xs) =
    let e = ends-append (line x) (flat_map line xs) in let h = one x in let r = each_one line one xs in omega (arith, e, h, r)

pub each_found : {X : Type 0} (line : X → Option (List ℕ)) → ((x : X) (text : List ℕ) → line x ≡ Some text → ends text ≡ 1) → (xs : List X)
    → ends (flat_map (λ text. text) (filter_map line xs)) ≡ length (filter_map line xs)
each_found line one [] = refl
each_found {X} line one (x ∷ xs) = by (line x) (λ text h. one x text h) (each_found line one xs)
  where
    by : (o : Option (List ℕ)) → ((text : List ℕ) → o ≡ Some text → ends text ≡ 1)
        → ends (flat_map (λ text. text) (filter_map line xs)) ≡ length (filter_map line xs)
        → ends (flat_map (λ text. text) (cons_option o (filter_map line xs))) ≡ length (cons_option o (filter_map line xs))
    by None one r = r
    by (Some text) one r =
        let e = ends-append text (flat_map (λ text. text) (filter_map line xs)) in let h = one text refl in omega (arith, e, h, r)
