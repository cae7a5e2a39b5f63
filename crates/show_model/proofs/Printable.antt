-- What is told is printable.
use Rattle.std.specs.Prelude.{◌≡◌, ℕ, ◌+◌, ◌/◌, ◌%◌, ◌<◌, ◌≤◌, ◌==◌, ◌&&◌, Bool, true, false, List, [], ◌∷◌, ◌++◌, codes, decimal, length, nat_lt, refl, if◌then◌else◌}
use Rattle.std.specs.Fmt.{digit_glyph, digits, digits_onto}
use Rattle.std.specs.List.{flat_map, list_all}
use Rattle.std.proofs.Common.{zero, suc, ap, ◌∙◌, arith}
use Rattle.std.proofs.lemmas.Bool.{lt-ltb}
use Rattle.std.proofs.lemmas.Bool.Decides.{nat_tests}
use Rattle.std.proofs.lemmas.List.Folds.{list_all-append}
use Rattle.lx_types.specs.Escaped.{hex_byte, hex_digit}
use Rattle.show_model.specs.Laws.{TextIsPrintable, is_text_byte}
use Rattle.show_model.specs.Outlines.{heading_text, is_plain, line_text, outline_text, part_text, shown, shown_byte}
use Rattle.show_model.specs.declared.part.Part.{Part}

abbrev AreText : List ℕ → Type 0
AreText bytes = list_all is_text_byte bytes ≡ true

-- ---- one byte

inside : (b : ℕ) → 0x20 ≤ b → b ≤ 0x7E → is_text_byte b ≡ true
inside b low high = grind (arith, nat_tests)

hex_digit_text : (d : ℕ) → d < 16 → is_text_byte (hex_digit d) ≡ true
hex_digit_text d small = by (nat_lt d 10)
  where
    by : (t : Bool) → is_text_byte (if t then 0x30 + d else 0x37 + d) ≡ true
    by true = inside (0x30 + d) (omega arith) (omega arith)
    by false = inside (0x37 + d) (omega arith) (omega arith)

-- ---- lists of bytes

both : (xs ys : List ℕ) → AreText xs → AreText ys → AreText (xs ++ ys)
both xs ys first second = list_all-append is_text_byte xs ys ∙ ap (λ (b : Bool). b && list_all is_text_byte ys) first ∙ second

each : {A : Type 0} (f : A → List ℕ) → ((x : A) → AreText (f x)) → (xs : List A) → AreText (flat_map f xs)
each f one [] = refl
each f one (x ∷ xs) = both (f x) (flat_map f xs) (one x) (each f one xs)

pair : (a b : ℕ) → is_text_byte a ≡ true → is_text_byte b ≡ true → AreText (a ∷ b ∷ [])
pair a b first second = ap (λ (t : Bool). t && (is_text_byte b && true)) first ∙ ap (λ (t : Bool). t && true) second

hex_byte_text : (b : ℕ) → AreText (hex_byte b)
hex_byte_text b = pair (hex_digit (b / 16 % 16)) (hex_digit (b % 16)) (hex_digit_text (b / 16 % 16) (omega arith)) (hex_digit_text (b % 16) (omega arith))

-- ---- escapes

shown_byte_text : (b : ℕ) → AreText (shown_byte b)
shown_byte_text b = by (is_plain b) refl
  where
    escape : (t : Bool) → AreText (if t then 0x5C ∷ 0x5C ∷ [] else 0x5C ∷ 0x78 ∷ hex_byte b)
    escape true = refl
    escape false = hex_byte_text b

    plain : is_plain b ≡ true → is_text_byte b ≡ true
    plain own = grind (arith, nat_tests)

    by : (t : Bool) → is_plain b ≡ t → AreText (if t then b ∷ [] else if b == 0x5C then 0x5C ∷ 0x5C ∷ [] else 0x5C ∷ 0x78 ∷ hex_byte b)
    by true own = ap (λ (t : Bool). t && true) (plain own)
    by false own = escape (b == 0x5C)

-- ---- numbers

glyph_text : (d : ℕ) → d < 10 → is_text_byte (digit_glyph false d) ≡ true
glyph_text d small = ap (λ (t : Bool). is_text_byte (if t then 48 + d else 87 + d)) (lt-ltb d 10 small) ∙ inside (48 + d) (omega arith) (omega arith)

digit_text : (n : ℕ) (acc : List ℕ) → AreText acc → AreText (digit_glyph false (n % 10) ∷ acc)
digit_text n acc text = ap (λ (t : Bool). t && list_all is_text_byte acc) (glyph_text (n % 10) (omega arith)) ∙ text

either : (t : Bool) (xs ys : List ℕ) → AreText xs → AreText ys → AreText (if t then xs else ys)
either true xs ys first second = first
either false xs ys first second = second

digits_text : (k n : ℕ) (acc : List ℕ) → AreText acc → AreText (digits_onto k 10 false n acc)
digits_text zero n acc text = text
digits_text (suc k) n acc text =
    either (n / 10 == 0) (digit_glyph false (n % 10) ∷ acc) (digits_onto k 10 false (n / 10) (digit_glyph false (n % 10) ∷ acc)) (digit_text n acc text)
    (digits_text k (n / 10) (digit_glyph false (n % 10) ∷ acc) (digit_text n acc text))

decimal_text : (n : ℕ) → AreText (decimal n)
unfolding digits
decimal_text n = digits_text 64 n [] refl

-- ---- lines and parts

line_text_text : (line : List ℕ) → AreText (line_text line)
line_text_text line = both (codes "  ") (shown line ++ 0x0A ∷ []) refl (both (shown line) (0x0A ∷ []) (each shown_byte shown_byte_text line) refl)

part_text_text : (p : Part) → AreText (part_text p)
part_text_text p =
    let n = length p.lines in
    let name = both (shown p.heading) (codes ": ") (each shown_byte shown_byte_text p.heading) refl in
    let number = both (shown p.heading ++ codes ": ") (decimal n) name (decimal_text n) in
    let heading = both (shown p.heading ++ codes ": " ++ decimal n) (0x0A ∷ []) number refl in
    both (heading_text p) (flat_map line_text p.lines) heading (each line_text line_text_text p.lines)

outline_text_text : (parts : List Part) → AreText (outline_text parts)
outline_text_text parts = each part_text part_text_text parts

pub text_is_printable : TextIsPrintable
text_is_printable text lists outline =
    let front = outline_text outline.before ++ outline_text outline.listed in
    let front_text = both (outline_text outline.before) (outline_text outline.listed) (outline_text_text outline.before) (outline_text_text outline.listed) in
    ap (list_all is_text_byte) outline.told ∙ both front (outline_text outline.after) front_text (outline_text_text outline.after)
