-- A line of tokens is read as these tokens.
use Rattle.std.proofs.Common.{◌≡◌, ℕ, ◌+◌, ◌-◌, ◌*◌, ◌<◌, ◌≤◌, ◌^◌, List, [], ◌∷◌, ◌++◌, length, refl, arith, ◌∙◌, ap, sym, subst, append_assoc, Bool, true, false, cond, Some, None, nat_lt, decimal, lit<}
use Rattle.std.specs.List.{list_all, All}
use Rattle.std.specs.Char.{is_ascii_digit}
use Rattle.std.specs.Option.{option_map_or}
use Rattle.std.proofs.lemmas.List.Elements.{All-head, All-tail}
use Rattle.std.proofs.lemmas.Bool.Decides.{nat_tests}
use Rattle.std.proofs.lemmas.Fmt.{decimal_nonempty, digits_decimal, digits_value-decimal}
use Rattle.std.proofs.lemmas.Str.Parse.{IsNumeralModel, IsDigitsTest, FoldsDigits, numerals_by_fold}
use Rattle.std.proofs.lemmas.Bool.{and_from, lt-ltb}
use Rattle.def_model.specs.declared.keyword.Keyword.{Keyword}
use Rattle.def_model.specs.declared.keyword.Keyword.TheVariants as kw
use Rattle.def_model.specs.declared.keyword.Pair.TheVariants as pairs
use Rattle.def_model.specs.Lexemes.{Lexeme, number, equals, at, dot, text, word, keyword, stray, ending}
use Rattle.def_model.specs.Numbers.{digit_of, are_digits, value_from, value_of, number_of}
use Rattle.def_model.specs.Tokens.{is_word_byte, word_lexeme}
use Rattle.def_write.specs.Spelling.{word_of, spelling, Spells, gap, text_after, line_text}
use Rattle.def_tokens.proofs.TokenLaws.{if-first}
use Rattle.def_tokens.proofs.LexemeLaws.{lexemes, lexemes-space, lexemes-line_end, lexemes-run, first-true, second-true}
use Rattle.def_write.proofs.TextLaws.{lexemes-equals, lexemes-at, lexemes-dot, lexemes-text}

-- A run of letters, digits and signs that is this token.
record Run (t : Lexeme) (run : List ℕ) : Type 0 where
  token : word_lexeme run ≡ t
  bytes : list_all (λ b. is_word_byte b) run ≡ true
  some : 0 < length run

run-read : (t : Lexeme) (run : List ℕ) → Run t run → (c : ℕ) (rest : List ℕ) → is_word_byte c ≡ false
    → lexemes (run ++ c ∷ rest) ≡ t ∷ lexemes (c ∷ rest)
run-read t run h c rest stop = lexemes-run run c rest h.bytes h.some stop ∙ ap (λ u. u ∷ lexemes (c ∷ rest)) h.token

-- ---- keywords

keyword-run : (k : Keyword) → Run (keyword k) (word_of k)
keyword-run kw.Name = record { token = refl; bytes = refl; some = lit< tt }
keyword-run kw.Library = record { token = refl; bytes = refl; some = lit< tt }
keyword-run kw.Description = record { token = refl; bytes = refl; some = lit< tt }
keyword-run kw.Code = record { token = refl; bytes = refl; some = lit< tt }
keyword-run kw.Data = record { token = refl; bytes = refl; some = lit< tt }
keyword-run kw.Segments = record { token = refl; bytes = refl; some = lit< tt }
keyword-run kw.Exports = record { token = refl; bytes = refl; some = lit< tt }
keyword-run kw.Imports = record { token = refl; bytes = refl; some = lit< tt }
keyword-run kw.StackSize = record { token = refl; bytes = refl; some = lit< tt }
keyword-run kw.HeapSize = record { token = refl; bytes = refl; some = lit< tt }
keyword-run kw.Base = record { token = refl; bytes = refl; some = lit< tt }
keyword-run kw.ProtMode = record { token = refl; bytes = refl; some = lit< tt }
keyword-run kw.ExeType = record { token = refl; bytes = refl; some = lit< tt }
keyword-run kw.Unread = record { token = refl; bytes = refl; some = lit< tt }
keyword-run kw.Window = record { token = refl; bytes = refl; some = lit< tt }
keyword-run (kw.Init true) = record { token = refl; bytes = refl; some = lit< tt }
keyword-run (kw.Init false) = record { token = refl; bytes = refl; some = lit< tt }
keyword-run (kw.Term true) = record { token = refl; bytes = refl; some = lit< tt }
keyword-run (kw.Term false) = record { token = refl; bytes = refl; some = lit< tt }
keyword-run kw.Class = record { token = refl; bytes = refl; some = lit< tt }
keyword-run kw.ResidentName = record { token = refl; bytes = refl; some = lit< tt }
keyword-run kw.NoData = record { token = refl; bytes = refl; some = lit< tt }
keyword-run kw.NoEffect = record { token = refl; bytes = refl; some = lit< tt }
keyword-run (kw.Attribute pairs.Write true) = record { token = refl; bytes = refl; some = lit< tt }
keyword-run (kw.Attribute pairs.Write false) = record { token = refl; bytes = refl; some = lit< tt }
keyword-run (kw.Attribute pairs.Read true) = record { token = refl; bytes = refl; some = lit< tt }
keyword-run (kw.Attribute pairs.Read false) = record { token = refl; bytes = refl; some = lit< tt }
keyword-run (kw.Attribute pairs.Shared true) = record { token = refl; bytes = refl; some = lit< tt }
keyword-run (kw.Attribute pairs.Shared false) = record { token = refl; bytes = refl; some = lit< tt }
keyword-run (kw.Attribute pairs.Preload true) = record { token = refl; bytes = refl; some = lit< tt }
keyword-run (kw.Attribute pairs.Preload false) = record { token = refl; bytes = refl; some = lit< tt }
keyword-run (kw.Attribute pairs.Conforming true) = record { token = refl; bytes = refl; some = lit< tt }
keyword-run (kw.Attribute pairs.Conforming false) = record { token = refl; bytes = refl; some = lit< tt }
keyword-run (kw.Attribute pairs.Iopl true) = record { token = refl; bytes = refl; some = lit< tt }
keyword-run (kw.Attribute pairs.Iopl false) = record { token = refl; bytes = refl; some = lit< tt }

-- ---- numbers

digit-in : (c : ℕ) → nat_lt (digit_of c) 10 ≡ true → (48 ≤ c) × (c ≤ 57)
digit-in c h = (grind (arith, nat_tests), grind (arith, nat_tests))

digit-is : (c : ℕ) → (48 ≤ c) × (c ≤ 57) → digit_of c ≡ c - 48
digit-is c h = grind (arith, nat_tests)

digit-word : (c : ℕ) → (48 ≤ c) × (c ≤ 57) → is_word_byte c ≡ true
digit-word c h = grind (arith, nat_tests)

digit-first : (c : ℕ) → (48 ≤ c) × (c ≤ 57) → is_ascii_digit c ≡ true
digit-first c h = grind (arith, nat_tests)

our-digits : IsDigitsTest (λ ds. are_digits 10 ds ≡ true)
our-digits = record {
  empty = refl;
  parts = λ c cs h. (digit-in c (first-true _ _ h), second-true _ _ h);
  more = λ c cs h k. let is = digit-is c h in and_from _ _ (lt-ltb (digit_of c) 10 (omega (arith, is, h))) k;
}

our-value : FoldsDigits (λ start ds. value_from 10 start ds)
our-value = record {
  empty = λ n. refl;
  more = λ n c cs h. ap (λ d. value_from 10 (n * 10 + d) cs) (digit-is c h);
}

our-numerals : IsNumeralModel (λ ds. are_digits 10 ds ≡ true) (value_from 10 0)
our-numerals = numerals_by_fold _ our-digits _ our-value

digits-words : (ds : List ℕ) → are_digits 10 ds ≡ true → list_all (λ b. is_word_byte b) ds ≡ true
digits-words [] h = refl
digits-words (d ∷ ds) h = and_from _ _ (digit-word d (digit-in d (first-true _ _ h))) (digits-words ds (second-true _ _ h))

digits-token : (ds : List ℕ) (n : ℕ) → 0 < length ds → are_digits 10 ds ≡ true → value_from 10 0 ds ≡ n → n < 2 ^ 32
    → word_lexeme ds ≡ number (Some n)
digits-token [] n some h is small = absurd (omega arith)
digits-token (d ∷ ds) n some h is small =
    let value : value_of 10 (d ∷ ds) ≡ Some n =
    if-first _ _ _ (lt-ltb (value_from 10 0 (d ∷ ds)) 4294967296 (omega (arith, is, small))) ∙ ap Some is in
    let spelled : number_of (d ∷ ds) ≡ Some (Some n) = if-first _ _ _ h ∙ ap Some value in
    if-first (is_ascii_digit d) _ _ (digit-first d (digit-in d (first-true _ _ h)))
    ∙ ap (λ v. option_map_or number v stray) spelled

number-run : (n : ℕ) → n < 2 ^ 32 → Run (number (Some n)) (decimal n)
number-run n small =
    let wide : n < 2 ^ 64 = omega arith in
    let digits : are_digits 10 (decimal n) ≡ true = digits_decimal our-numerals n wide in
    record {
      token = digits-token (decimal n) n (decimal_nonempty n wide) digits (digits_value-decimal our-numerals n wide) small;
      bytes = digits-words (decimal n) digits;
      some = decimal_nonempty n wide;
    }

-- ---- tokens of a line

-- What stands after a token ends it.
record Stop (bytes : List ℕ) : Type 0 where
  first : ℕ
  others : List ℕ
  is : bytes ≡ first ∷ others
  no_word : is_word_byte first ≡ false

after-keyword : (k : Keyword) (ts : List Lexeme) (rest : List ℕ) → Stop (text_after (keyword k) ts ++ 10 ∷ rest)
after-keyword k [] rest = record { first = 10; others = rest; is = refl; no_word = refl }
after-keyword k (dot ∷ ts) rest = record { first = 46; others = _; is = refl; no_word = refl }
after-keyword k (t ∷ ts) rest = record { first = 32; others = _; is = refl; no_word = refl }

after-number : (n : ℕ) (ts : List Lexeme) (rest : List ℕ) → Stop (text_after (number (Some n)) ts ++ 10 ∷ rest)
after-number n [] rest = record { first = 10; others = rest; is = refl; no_word = refl }
after-number n (dot ∷ ts) rest = record { first = 46; others = _; is = refl; no_word = refl }
after-number n (t ∷ ts) rest = record { first = 32; others = _; is = refl; no_word = refl }

run-stopped : (t : Lexeme) (run : List ℕ) → Run t run → (bytes : List ℕ) → Stop bytes → lexemes (run ++ bytes) ≡ t ∷ lexemes bytes
run-stopped t run h bytes stop =
    let P : List ℕ → Type 0 = λ bs. lexemes (run ++ bs) ≡ t ∷ lexemes bs in
    subst P (sym stop.is) (run-read t run h stop.first stop.others stop.no_word)

token-read : (t : Lexeme) (ts : List Lexeme) (rest : List ℕ) → Spells t
    → lexemes (spelling t ++ (text_after t ts ++ 10 ∷ rest)) ≡ t ∷ lexemes (text_after t ts ++ 10 ∷ rest)
token-read (number (Some n)) ts rest h = run-stopped (number (Some n)) (decimal n) (number-run n h) _ (after-number n ts rest)
token-read (number None) ts rest h = absurd h
token-read equals ts rest h = lexemes-equals _
token-read at ts rest h = lexemes-at _
token-read dot ts rest h = lexemes-dot _
token-read (text bytes) ts rest h =
    ap (λ bs. lexemes (39 ∷ bs)) (append_assoc bytes (39 ∷ []) (text_after (text bytes) ts ++ 10 ∷ rest)) ∙ lexemes-text bytes _ h
token-read (keyword k) ts rest h = run-stopped (keyword k) (word_of k) (keyword-run k) _ (after-keyword k ts rest)
token-read (word bytes) ts rest h = absurd h
token-read stray ts rest h = absurd h
token-read ending ts rest h = absurd h

gap-read : (test : Bool) (bytes : List ℕ) → lexemes (cond test [] (32 ∷ []) ++ bytes) ≡ lexemes bytes
gap-read true bytes = refl
gap-read false bytes = lexemes-space bytes

after-read : (before : Lexeme) (ts : List Lexeme) (rest : List ℕ) → All Spells ts
    → lexemes (text_after before ts ++ 10 ∷ rest) ≡ ts ++ lexemes rest
after-read before [] rest h = lexemes-line_end rest
after-read before (t ∷ ts) rest h =
    ap lexemes (append_assoc (gap before t) (spelling t ++ text_after t ts) (10 ∷ rest)
    ∙ ap (λ bs. gap before t ++ bs) (append_assoc (spelling t) (text_after t ts) (10 ∷ rest)))
    ∙ gap-read _ (spelling t ++ (text_after t ts ++ 10 ∷ rest))
    ∙ token-read t ts rest (All-head Spells t ts h)
    ∙ ap (λ us. t ∷ us) (after-read t ts rest (All-tail Spells t ts h))

pub line-read : (ts : List Lexeme) (rest : List ℕ) → All Spells ts → lexemes (line_text ts ++ rest) ≡ ts ++ lexemes rest
line-read [] rest h = lexemes-line_end rest
line-read (t ∷ ts) rest h =
    ap lexemes (append_assoc (spelling t) (text_after t ts ++ 10 ∷ []) rest
    ∙ ap (λ bs. spelling t ++ bs) (append_assoc (text_after t ts) (10 ∷ []) rest))
    ∙ token-read t ts rest (All-head Spells t ts h)
    ∙ ap (λ us. t ∷ us) (after-read t ts rest (All-tail Spells t ts h))
