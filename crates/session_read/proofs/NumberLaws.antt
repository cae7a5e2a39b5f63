-- Numbers, digit by digit.
use Rattle.std.proofs.Common.{◌≡◌, ℕ, ◌+◌, ◌*◌, ◌^◌, ◌<◌, ◌≤◌, true, false, List, [], ◌∷◌, length, drop, get_or, Option, Some, None, option_map, option_and_then, refl, sym, ap, ◌∙◌, arith}
use Rattle.std.specs.Prelude.{nat_lt}
use Rattle.std.proofs.lemmas.List.{drop_more}
use Rattle.std.proofs.lemmas.Bool.{le-ltb, cond-false, cond-true}
use Rattle.session_model.specs.Lines.{digits_onto, below, is_hex, number_in}
use Rattle.session_read.specs.declared.numbers.Base.{Base}
use Rattle.session_read.specs.declared.numbers.Base.TheVariants.{Ten, Sixteen}
use Rattle.session_read.specs.Digits.{radix, digit_of, small_number}

-- the number of digits after those that make a number so far
abbrev pub small_onto : Base → ℕ → List ℕ → Option ℕ
small_onto base v digits = option_and_then (below (2 ^ 32)) (digits_onto (radix base) (digit_of base) (Some v) digits)

pub small-begins : (base : Base) (digits : List ℕ) → 0 < length digits → small_onto base 0 digits ≡ small_number base digits
small-begins base [] some = absurd (omega arith)
small-begins base (d ∷ ds) some = refl

pub small-empty : (base : Base) (digits : List ℕ) → length digits ≡ 0 → None ≡ small_number base digits
small-empty base [] none = refl
small-empty base (d ∷ ds) none = absurd (omega arith)

-- ---- a byte that is no digit

onto-none : (base : ℕ) (value : ℕ → Option ℕ) (ds : List ℕ) → digits_onto base value None ds ≡ None
onto-none base value [] = refl
onto-none base value (d ∷ ds) = onto-none base value ds

onto-step : (base : ℕ) (value : ℕ → Option ℕ) (v d : ℕ) (ds : List ℕ) (o : Option ℕ) → value d ≡ o
    → digits_onto base value (Some v) (d ∷ ds) ≡ digits_onto base value (option_map (λ digit. v * base + digit) o) ds
onto-step base value v d ds o h = ap (λ o. digits_onto base value (option_map (λ digit. v * base + digit) o) ds) h

pub small-stray : (base : Base) (v : ℕ) (digits : List ℕ) (i b : ℕ) → i < length digits → b ≡ get_or digits i 0 → None ≡ digit_of base b
    → small_onto base v (drop i digits) ≡ None
small-stray base v digits i b within is stray =
    ap (small_onto base v) (drop_more digits i 0 within)
    ∙ ap (λ o. option_and_then (below (2 ^ 32)) o)
    (onto-step (radix base) (digit_of base) v (get_or digits i 0) (drop (i + 1) digits) None (ap (digit_of base) (sym is) ∙ sym stray)
    ∙ onto-none (radix base) (digit_of base) (drop (i + 1) digits))

pub small-more : (base : Base) (v : ℕ) (digits : List ℕ) (i b d : ℕ) → i < length digits → b ≡ get_or digits i 0 → Some d ≡ digit_of base b
    → small_onto base v (drop i digits) ≡ small_onto base (v * radix base + d) (drop (i + 1) digits)
small-more base v digits i b d within is digit =
    ap (small_onto base v) (drop_more digits i 0 within)
    ∙ ap (λ o. option_and_then (below (2 ^ 32)) o)
    (onto-step (radix base) (digit_of base) v (get_or digits i 0) (drop (i + 1) digits) (Some d) (ap (digit_of base) (sym is) ∙ sym digit))

-- ---- a number that is too high stays so

pub radix-some : (base : Base) → 1 ≤ radix base
radix-some Ten = omega arith
radix-some Sixteen = omega arith

grown : (base v d limit : ℕ) → 1 ≤ base → limit ≤ v → limit ≤ v * base + d
grown base v d limit some h = grind arith

onto-over : (base : ℕ) (value : ℕ → Option ℕ) (limit v : ℕ) (ds : List ℕ) → 1 ≤ base → limit ≤ v
    → option_and_then (below limit) (digits_onto base value (Some v) ds) ≡ None
onto-over base value limit v [] some h = cond-false (nat_lt v limit) _ _ (le-ltb v limit h)
onto-over base value limit v (d ∷ ds) some h =
    step (value d) refl (λ digit. onto-over base value limit (v * base + digit) ds some (grown base v digit limit some h))
  where
    step : (o : Option ℕ) → value d ≡ o
        → ((digit : ℕ) → option_and_then (below limit) (digits_onto base value (Some (v * base + digit)) ds) ≡ None)
        → option_and_then (below limit) (digits_onto base value (Some v) (d ∷ ds)) ≡ None
    step None is more = ap (λ o. option_and_then (below limit) o) (onto-step base value v d ds None is ∙ onto-none base value ds)
    step (Some digit) is more = ap (λ o. option_and_then (below limit) o) (onto-step base value v d ds (Some digit) is) ∙ more digit

pub small-over : (base : Base) (v : ℕ) (digits : List ℕ) → 2 ^ 32 ≤ v → small_onto base v digits ≡ None
small-over base v digits h = onto-over (radix base) (digit_of base) (2 ^ 32) v digits (radix-some base) h

-- ---- a word

pub number-hex : (word : List ℕ) → is_hex word ≡ true → number_in word ≡ small_number Sixteen (drop 2 word)
unfolding number_in
number-hex word h = ap (λ o. option_and_then (below (2 ^ 32)) o) (cond-true (is_hex word) _ _ h)

pub number-decimal : (word : List ℕ) → is_hex word ≡ false → number_in word ≡ small_number Ten word
unfolding number_in
number-decimal word h = ap (λ o. option_and_then (below (2 ^ 32)) o) (cond-false (is_hex word) _ _ h)
