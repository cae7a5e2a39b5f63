-- The words that are numbers from 1 to 64.
use Rattle.std.proofs.Common.{◌≡◌, ◌≢◌, ℕ, zero, suc, ◌+◌, ◌-◌, ◌<◌, ◌≤◌, Bool, true, false, List, [], ◌∷◌, ◌++◌, length, get_or, find, Option, Some, None, Result, Ok, Err, Decides, ◌∙◌, ap, sym, subst, refl, arith}
use Rattle.std.specs.Prelude.{◌==◌, if◌then◌else◌}
use Rattle.std.specs.Fmt.{decimal}
use Rattle.std.specs.List.{range_with_len}
use Rattle.std.specs.Result.{OkIff, result_ok}
use Rattle.std.specs.Str.{bytes_eq}
use Rattle.std.specs.Str.Parse.{AllDigits, ParsesUnsigned, digits_value}
use Rattle.std.proofs.lemmas.Fmt.{decimal-digits_value, decimal_digit, decimal_injective, first_decimal, parse-decimal}
use Rattle.std.proofs.lemmas.Result.{OkIff-at_ok}
use Rattle.std.proofs.lemmas.Slice.Eq.{bytes_eq-Decides}
use Rattle.std.proofs.lemmas.Str.Parse.{IsNumeralModel, parse_plain}
use Rattle.answer_model.specs.Words.{count_of}

-- ---- the first number that passes

found_by : (b : Bool) (p : ℕ → Bool) (a : ℕ) (rest : List ℕ) → b ≡ true → (if b then Some a else find p rest) ≡ Some a
found_by true p a rest is = refl
found_by false p a rest is = cc

passed_by : (b : Bool) (p : ℕ → Bool) (a : ℕ) (rest : List ℕ) (r : Option ℕ) → b ≡ false → find p rest ≡ r → (if b then Some a else find p rest) ≡ r
passed_by true p a rest r is after = cc
passed_by false p a rest r is after = after

found_in : (p : ℕ → Bool) (d a len : ℕ) → d < len → p (a + d) ≡ true → ((m : ℕ) → m < a + d → p m ≡ false) → find p (range_with_len a len) ≡ Some (a + d)
found_in p d a zero within at before = absurd (omega (arith, within))
found_in p zero a (suc len) within at before =
    let here : a + 0 ≡ a = omega arith in
    subst (λ (k : ℕ). find p (range_with_len a (suc len)) ≡ Some k) (sym here) (found_by (p a) p a (range_with_len (a + 1) len) (ap p (sym here) ∙ at))
found_in p (suc d) a (suc len) within at before =
    let next : (a + 1) + d ≡ a + suc d = omega arith in
    let less : d < len = omega (arith, within) in
    passed_by (p a) p a (range_with_len (a + 1) len) (Some (a + suc d)) (before a (omega arith))
    (subst (λ (k : ℕ). find p (range_with_len (a + 1) len) ≡ Some k) next
    (found_in p d (a + 1) len less (ap p next ∙ at) (λ m h. before m (omega (arith, h)))))

none_in : (p : ℕ → Bool) (a len : ℕ) → ((m : ℕ) → a ≤ m → m < a + len → p m ≡ false) → find p (range_with_len a len) ≡ None
none_in p a zero none = refl
none_in p a (suc len) none =
    passed_by (p a) p a (range_with_len (a + 1) len) None (none a (omega arith) (omega arith)) (none_in p (a + 1) len (λ m low high. none m (omega (arith, low)) (omega (arith, high))))

-- ---- decimal words

abbrev is_word : List ℕ → ℕ → Bool
is_word word n = bytes_eq word (decimal n)

word_is : (word : List ℕ) (n : ℕ) → word ≡ decimal n → is_word word n ≡ true
word_is word n e = let d = bytes_eq-Decides word (decimal n) in d.1 e

not_by : (b : Bool) (P : Type 0) → Decides b P → (P → ⊥) → b ≡ false
not_by true P d other = absurd (other (d.0 refl))
not_by false P d other = refl

word_is_not : (word : List ℕ) (n : ℕ) → (word ≡ decimal n → ⊥) → is_word word n ≡ false
word_is_not word n other = not_by _ _ (bytes_eq-Decides word (decimal n)) other

pub count_found : (word : List ℕ) (n : ℕ) → 1 ≤ n → n ≤ 64 → word ≡ decimal n → count_of word ≡ Some n
unfolding count_of
count_found word n low high e =
    let d : ℕ = n - 1 in
    let same : 1 + d ≡ n = omega (arith, low) in
    subst (λ (k : ℕ). find (is_word word) (range_with_len 1 64) ≡ Some k) same
    (found_in (is_word word) d 1 64 (omega (arith, low, high)) (subst (λ (k : ℕ). is_word word k ≡ true) (sym same) (word_is word n e))
    (λ m less. word_is_not word m (λ f.
    let other : m ≡ n = decimal_injective m n (omega (arith, less, same, high)) (omega (arith, high)) (sym f ∙ e) in omega (arith, other, less, same))))

pub no_count : (word : List ℕ) → ((n : ℕ) → 1 ≤ n → n ≤ 64 → word ≡ decimal n → ⊥) → count_of word ≡ None
unfolding count_of
no_count word none = none_in (is_word word) 1 64 (λ m low high. word_is_not word m (none m low (omega (arith, high))))

-- ---- what begins with no digit, or with a zero

pub not_begun : (word : List ℕ) → get_or word 0 0 ≤ 48 → count_of word ≡ None
not_begun word low = no_count word (λ n one most e.
    let first : 48 < get_or (decimal n) 0 0 = first_decimal n (omega (arith, one)) (omega (arith, most)) in
    let same : get_or word 0 0 ≡ get_or (decimal n) 0 0 = ap (λ (w : List ℕ). get_or w 0 0) e in
    omega (arith, first, same, low))

zero_of : (n : ℕ) → true ≡ (n == 0) → n ≡ 0
zero_of n is = grind (arith, sym is)

pub nothing : (word : List ℕ) → true ≡ (length word == 0) → count_of word ≡ None
nothing [] is = not_begun [] (omega arith)
nothing (d ∷ ds) is = absurd (let none = zero_of (length (d ∷ ds)) is in omega (arith, none))

-- ---- what is parsed

own : IsNumeralModel (AllDigits 10) (digits_value 10)
own = record { to = λ ds p. p; from = λ ds p. p; same = λ ds p. refl }

ok_of : {E : Type 0} (r : Result ℕ E) (n : ℕ) → result_ok r ≡ Some n → r ≡ Ok n
ok_of (Ok m) n is = let same : m ≡ n = cc (is) in ap (λ (k : ℕ). Ok k) same
ok_of (Err e) n is = absurd cc

not_ok : {E : Type 0} (r : Result ℕ E) (n : ℕ) → result_ok r ≡ None → r ≡ Ok n → ⊥
not_ok (Ok m) n none is = cc
not_ok (Err e) n none is = cc

module _ {E : Type 0} (word : List ℕ) (r : Result ℕ E) (parses : ParsesUnsigned 32 10 word r) (begun : 48 < get_or word 0 0) where
  parsed : (count : ℕ) → r ≡ Ok count → word ≡ decimal count × (1 ≤ count)
  parsed count is =
      let plain = parse_plain own 32 word r parses (λ (plus : get_or word 0 0 ≡ 43). omega (arith, plus, begun)) in
      let value = OkIff-at_ok r _ _ count plain is in
      let digits : decimal (digits_value 10 word) ≡ word =
      decimal-digits_value own word value.0.0 value.0.1 (λ nought. absurd (omega (arith, nought, begun))) (let small = value.0.2 in omega (arith, small)) in
      let same : word ≡ decimal count = sym digits ∙ ap (λ n. decimal n) (sym value.1) in
      (same, some count same)
    where
      some : (count : ℕ) → word ≡ decimal count → 1 ≤ count
      some zero e = absurd (let nought : get_or word 0 0 ≡ 48 = ap (λ (w : List ℕ). get_or w 0 0) (e ∙ decimal_digit 0 (omega arith)) in omega (arith, nought, begun))
      some (suc n) e = omega arith

  -- the number that is parsed, where one is
  same_number : (n : ℕ) → n ≤ 64 → word ≡ decimal n → r ≡ Ok n
  same_number n most e = parse-decimal 32 n word r (omega (arith, most)) (omega (arith, most)) e parses

  pub count_parsed : (count : ℕ) → result_ok r ≡ Some count → count ≤ 64 → Some count ≡ count_of word
  count_parsed count is few = let known = parsed count (ok_of r count is) in sym (count_found word count known.1 few known.0)

  pub count_is_one : (count : ℕ) → result_ok r ≡ Some count → 1 ≤ count
  count_is_one count is = let known = parsed count (ok_of r count is) in known.1

  pub count_too_large : (count : ℕ) → result_ok r ≡ Some count → 64 < count → None ≡ count_of word
  count_too_large count is many = sym (no_count word (λ n one most e.
      let other : ◌≡◌ {A = Option ℕ} (Some count) (Some n) = sym is ∙ ap (λ (a : Result ℕ E). result_ok a) (same_number n most e) in
      let same : count ≡ n = cc (other) in omega (arith, same, most, many)))

  pub not_parsed : result_ok r ≡ None → None ≡ count_of word
  not_parsed none = sym (no_count word (λ n one most e. not_ok r n none (same_number n most e)))
