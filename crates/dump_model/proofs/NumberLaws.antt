-- Numbers in decimal are words, and each is the text of one number.
use Rattle.std.proofs.Common.{◌≡◌, ℕ, ◌+◌, ◌*◌, ◌-◌, ◌^◌, ◌<◌, ◌≤◌, true, false, List, [], ◌∷◌, ◌++◌, length, get_or, zero, suc, ◌/◌, ◌%◌, append-nil, inl, inr, ◌⊎◌, w32, Result, Ok, Err, refl, sym, ap, ◌∙◌, arith}
use Rattle.std.specs.Prelude.{decimal, IsTrue, ℤ, pos, negsuc, Option, Some, None}
use Rattle.std.specs.List.{list_all, fold}
use Rattle.std.proofs.lemmas.Bool.Decides.{nat_tests}
use Rattle.std.proofs.lemmas.Fmt.{decimal_injective, digits_decimal, decimal_step, decimal_digit, first_decimal, signed_decimal_injective}
use Rattle.std.proofs.lemmas.Str.Parse.{IsNumeralModel, IsDigitsTest, FoldsDigits, numerals_by_fold}
use Rattle.session_model.specs.Lines.{is_digit}
use Rattle.dump_model.specs.Bounds.{Has32, HasSigned32}
use Rattle.std.specs.Fmt.{signed_decimal}
use Rattle.std.specs.Int.Signed.{mag}
use Rattle.std.specs.Prelude.{nat_lt, FitsSigned, is_some}
use Rattle.std.proofs.lemmas.List.{length-append}
use Rattle.std.proofs.lemmas.Bool.{cases_Bool, and_from, and_parts}
use Rattle.dump_model.proofs.WordLaws.{same-head, IsWords}
use Rattle.dump_model.specs.Words.{is_in_word, no_break, IsWord, Begins, Tells}

pub no-ok : {A E : Type 0} (e : E) (a : A) (r : Result A E) → r ≡ Err e → r ≡ Ok a → ⊥
no-ok e a r is other = absurd cc

pub same-ok : {A E : Type 0} (a b : A) (r : Result A E) → r ≡ Ok a → r ≡ Ok b → a ≡ b
same-ok a b r is other = cc

pub no-true : IsTrue false → ⊥
no-true h = absurd cc

digit-in : (c : ℕ) → is_digit c ≡ true → (48 ≤ c) × (c ≤ 57)
digit-in c h = (grind (arith, nat_tests), grind (arith, nat_tests))

digit-is : (c : ℕ) → (48 ≤ c) × (c ≤ 57) → is_digit c ≡ true
digit-is c h = grind (arith, nat_tests)

digit-in_word : (c : ℕ) → is_digit c ≡ true → is_in_word c ≡ true
digit-in_word c h = grind (arith, nat_tests)

our-digits : IsDigitsTest (λ ds. list_all is_digit ds ≡ true)
our-digits = record {
  empty = refl;
  parts = λ c cs h. (digit-in c (and_parts (is_digit c) (list_all is_digit cs) h).0, (and_parts (is_digit c) (list_all is_digit cs) h).1);
  more = λ c cs h k. and_from (is_digit c) (list_all is_digit cs) (digit-is c h) k;
}

abbrev value_of : ℕ → List ℕ → ℕ
value_of n ds = fold (λ v d. v * 10 + (d - 48)) n ds

our-value : FoldsDigits (λ start ds. value_of start ds)
our-value = record { empty = λ n. refl; more = λ n c cs h. refl }

our-numerals : IsNumeralModel (λ ds. list_all is_digit ds ≡ true) (value_of 0)
our-numerals = numerals_by_fold _ our-digits _ our-value

digits-word : (ds : List ℕ) → list_all is_digit ds ≡ true → IsWord ds
digits-word [] h = refl
digits-word (d ∷ ds) h =
    let parts = and_parts (is_digit d) (list_all is_digit ds) h in
    and_from (is_in_word d) (list_all is_in_word ds) (digit-in_word d parts.0) (digits-word ds parts.1)

pub number-word : (n : ℕ) → Has32 n → IsWord (decimal n)
number-word n small = digits-word (decimal n) (digits_decimal our-numerals n (omega (arith, small)))

pub number-one : (m n : ℕ) → Has32 m → Has32 n → decimal m ≡ decimal n → m ≡ n
number-one m n hm hn is = decimal_injective m n (omega (arith, hm)) (omega (arith, hn)) is

pub decimal-words : IsWords decimal Has32
decimal-words = record { some = 0; inside = omega arith; word = number-word; one = number-one }

-- ---- what a number begins with

empty-parts : (u v : List ℕ) → u ++ v ≡ [] → (u ≡ []) × (v ≡ [])
empty-parts [] v h = (refl, h)
empty-parts (x ∷ u) v h = absurd (omega (arith, ap length h))

-- the last element is of the second of two lists, if that has any
split-last : (xs u v : List ℕ) (a : ℕ) → xs ++ a ∷ [] ≡ u ++ v → (v ≡ []) ⊎ ((rest : List ℕ) × (xs ≡ u ++ rest))
split-last [] [] v a is = inr ([], refl)
split-last [] (w ∷ u) v a is = inl (empty-parts u v (sym (same-head a w [] (u ++ v) is).1)).1
split-last (x ∷ xs) [] v a is = inr (x ∷ xs, refl)
split-last (x ∷ xs) (w ∷ u) v a is = by (split-last xs u v a (same-head x w (xs ++ a ∷ []) (u ++ v) is).1)
  where
    by : (v ≡ []) ⊎ ((rest : List ℕ) × (xs ≡ u ++ rest)) → (v ≡ []) ⊎ ((rest : List ℕ) × (x ∷ xs ≡ (w ∷ u) ++ rest))
    by (inl none) = inl none
    by (inr more) = inr (more.0, ap (λ c. c ∷ xs) (same-head x w (xs ++ a ∷ []) (u ++ v) is).0 ∙ ap (λ l. w ∷ l) more.1)

-- a number that begins with some digits, in so many steps at most
begun-by : (k n : ℕ) → n ≤ k → n < 2 ^ 64 → (word rest : List ℕ) → 0 < length word → decimal n ≡ word ++ rest → (m : ℕ) × (m ≤ n) × (word ≡ decimal m)
begun-by k n le small word [] some is = (n, omega arith, sym (append-nil word) ∙ sym is)
begun-by zero n le small word (r ∷ rest) some is =
    let zero-text : decimal n ≡ (48 + n) ∷ [] = decimal_digit n (omega (arith, le)) in
    absurd (omega (arith, some, ap length (sym zero-text ∙ is), longer word (r ∷ rest)))
  where
    longer : (u v : List ℕ) → length (u ++ v) ≡ length u + length v
    longer u v = length-append u v
begun-by (suc k) n le small word (r ∷ rest) some is = by (cases_Bool (nat_lt n 10)) (split-last (decimal (n / 10)) word (r ∷ rest) (48 + n % 10)) (begun-by k (n / 10))
  where
    by : (nat_lt n 10 ≡ true) ⊎ (nat_lt n 10 ≡ false)
        → (decimal (n / 10) ++ (48 + n % 10) ∷ [] ≡ word ++ r ∷ rest → (r ∷ rest ≡ []) ⊎ ((more : List ℕ) × (decimal (n / 10) ≡ word ++ more)))
        → (n / 10 ≤ k → n / 10 < 2 ^ 64 → (u v : List ℕ) → 0 < length u → decimal (n / 10) ≡ u ++ v → (m : ℕ) × (m ≤ n / 10) × (u ≡ decimal m))
        → (m : ℕ) × (m ≤ n) × (word ≡ decimal m)
    by (inl one) split again =
        let digit : n < 10 = grind (arith, nat_tests) in
        absurd (omega (arith, some, ap length (sym (decimal_digit n digit) ∙ is), length-append word (r ∷ rest)))
    by (inr more) split again =
        let large : 10 ≤ n = grind (arith, nat_tests) in
        within large (split (sym (decimal_step n large small) ∙ is))
      where
        within : 10 ≤ n → (r ∷ rest ≡ []) ⊎ ((more : List ℕ) × (decimal (n / 10) ≡ word ++ more)) → (m : ℕ) × (m ≤ n) × (word ≡ decimal m)
        within large (inl none) = absurd (omega (arith, ap length none))
        within large (inr parts) =
            let m = again (omega (arith, le, large)) (omega (arith, small)) word parts.0 some parts.1 in
            (m.0, omega (arith, m.1), m.2)

pub begins-number : (n : ℕ) (word rest : List ℕ) → n < 2 ^ 64 → 0 < length word → decimal n ≡ word ++ rest → (m : ℕ) × (m ≤ n) × (word ≡ decimal m)
begins-number n word rest small some is = begun-by n n (omega arith) small word rest some is

-- ---- numbers with a sign

sign-word : is_in_word 45 ≡ true
sign-word = refl

pub signed-word : (z : ℤ) → HasSigned32 z → IsWord (signed_decimal z)
signed-word (pos n) small = number-word n (omega (arith, small))
signed-word (negsuc n) small = and_from (is_in_word 45) (no_break (decimal (suc n))) sign-word (number-word (suc n) (omega (arith, small)))

pub small-mag : (z : ℤ) → HasSigned32 z → mag z < 2 ^ 63
small-mag (pos n) h = omega (arith, h)
small-mag (negsuc n) h = omega (arith, h)

pub signed-words : IsWords signed_decimal HasSigned32
signed-words = record {
  some = pos 0;
  inside = omega arith;
  word = signed-word;
  one = λ y z hy hz is. signed_decimal_injective y z (small-mag y hy) (small-mag z hz) is;
}

-- a number with a sign begins with nothing, with the sign, or with the text of one
pub begins-signed : (z : ℤ) (word rest : List ℕ) → HasSigned32 z → signed_decimal z ≡ word ++ rest
    → (word ≡ []) ⊎ ((word ≡ 45 ∷ []) ⊎ ((y : ℤ) × HasSigned32 y × (word ≡ signed_decimal y)))
begins-signed z [] rest small is = inl refl
begins-signed (pos n) (b ∷ word) rest small is =
    let m = begins-number n (b ∷ word) rest (omega (arith, small)) (omega arith) is in
    inr (inr (pos m.0, omega (arith, m.1, small), m.2))
begins-signed (negsuc n) (b ∷ []) rest small is = inr (inl (ap (λ c. c ∷ []) (sym (same-head 45 b (decimal (suc n)) rest is).0)))
begins-signed (negsuc n) (b ∷ c ∷ word) rest small is =
    let parts = same-head 45 b (decimal (suc n)) ((c ∷ word) ++ rest) is in
    let m = begins-number (suc n) (c ∷ word) rest (omega (arith, small)) (omega arith) parts.1 in
    by m.0 m.1 m.2 parts.0 parts.1
  where
    by : (m : ℕ) → m ≤ suc n → c ∷ word ≡ decimal m → 45 ≡ b → decimal (suc n) ≡ (c ∷ word) ++ rest
        → (b ∷ c ∷ word ≡ []) ⊎ ((b ∷ c ∷ word ≡ 45 ∷ []) ⊎ ((y : ℤ) × HasSigned32 y × (b ∷ c ∷ word ≡ signed_decimal y)))
    by zero le text sign all =
        let first : 48 < get_or (decimal (suc n)) 0 0 = first_decimal (suc n) (omega arith) (omega (arith, small)) in
        let is-zero : c ≡ 48 = (same-head c 48 word [] (text ∙ decimal_digit 0 (omega arith))).0 in
        let first-is : get_or (decimal (suc n)) 0 0 ≡ c = ap (λ xs. get_or xs 0 0) all in
        absurd (omega (arith, first, is-zero, first-is))
    by (suc m) le text sign all = inr (inr (negsuc m, omega (arith, le, small), ap (λ x. x ∷ c ∷ word) (sym sign) ∙ ap (λ xs. 45 ∷ xs) text))

pub fits-signed : (z : ℤ) → HasSigned32 z → FitsSigned w32 z
fits-signed (pos n) h = record { sfits = h }
fits-signed (negsuc n) h = record { sfits = h }

pub count-word : (n : ℕ) → n < 2 ^ 64 → IsWord (decimal n)
count-word n small = digits-word (decimal n) (digits_decimal our-numerals n small)

-- ---- what a word begins, by tests

pub number-begun : (word : List ℕ) → word ≡ [] → Begins decimal Has32 word
number-begun word none = (0, decimal 0, omega arith, ap (λ w. w ++ decimal 0) (sym none))

pub number-told : (told : Option ℕ) (word : List ℕ) → Tells decimal Has32 told word → is_some told ≡ true → Begins decimal Has32 word
number-told None word tells h = absurd cc
number-told (Some n) word tells h = (n, [], tells.0, sym tells.1 ∙ sym (append-nil word))

some-told : {A : Type 0} (text : A → List ℕ) (In : A → Type 0) (told : Option A) (word : List ℕ) (a : A) → Tells text In told word → In a → word ≡ text a → is_some told ≡ true
some-told text In None word a tells range is = absurd (tells a range is)
some-told text In (Some b) word a tells range is = refl

pub told-number : (told : Option ℕ) (word : List ℕ) → Tells decimal Has32 told word → 0 < length word → Begins decimal Has32 word → is_some told ≡ true
told-number told word tells some b =
    let m = begins-number b.0 word b.1 (omega (arith, b.2)) some b.3 in some-told decimal Has32 told word m.0 tells (omega (arith, m.1, b.2)) m.2

pub signed-begun : (word : List ℕ) → word ≡ [] → Begins signed_decimal HasSigned32 word
signed-begun word none = (pos 0, decimal 0, omega arith, ap (λ w. w ++ decimal 0) (sym none))

pub sign-begun : (word : List ℕ) → word ≡ 45 ∷ [] → Begins signed_decimal HasSigned32 word
sign-begun word is = (negsuc 0, decimal 1, omega arith, ap (λ w. w ++ decimal 1) (sym is))

pub signed-told : (told : Option ℤ) (word : List ℕ) → Tells signed_decimal HasSigned32 told word → is_some told ≡ true → Begins signed_decimal HasSigned32 word
signed-told None word tells h = absurd cc
signed-told (Some n) word tells h = (n, [], tells.0, sym tells.1 ∙ sym (append-nil word))

pub told-signed : (told : Option ℤ) (word : List ℕ) → Tells signed_decimal HasSigned32 told word → (word ≡ [] → ⊥) → (word ≡ 45 ∷ [] → ⊥) → Begins signed_decimal HasSigned32 word
    → is_some told ≡ true
told-signed told word tells some other b = by (begins-signed b.0 word b.1 b.2 b.3)
  where
    by : (word ≡ []) ⊎ ((word ≡ 45 ∷ []) ⊎ ((y : ℤ) × HasSigned32 y × (word ≡ signed_decimal y))) → is_some told ≡ true
    by (inl none) = absurd (some none)
    by (inr (inl sign)) = absurd (other sign)
    by (inr (inr y)) = some-told signed_decimal HasSigned32 told word y.0 tells y.1 y.2
