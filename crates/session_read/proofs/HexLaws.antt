-- The bytes of pairs of digits are those that the crate `hex` decodes.
use Rattle.std.proofs.Common.{◌≡◌, ℕ, ◌+◌, ◌*◌, ◌%◌, ◌<◌, ◌≤◌, Bool, true, false, cond, List, [], ◌∷◌, length, Option, Some, None, option_map, option_and_then, Result, Ok, Err, refl, sym, ap, ◌∙◌, arith}
use Rattle.std.specs.Prelude.{◌==◌, ◌||◌, nat_lt}
use Rattle.std.proofs.lemmas.Bool.Decides.{nat_tests}
use Rattle.std.proofs.lemmas.Bool.{le-ltb, lt-ltb, ne_eqb, cond-false, cond-true, or_from, or_right}
use Rattle.hex.specs.declared.error.FromHexError.{FromHexError}
use Rattle.hex.specs.Hex.{hex_digit_value, digit_or_error, value_at, decode_pairs, decode_of, ◌>>=◌}
use Rattle.session_model.specs.Lines.{hex_value, hex_bytes}
use Rattle.session_model.specs.Statements.{hex_in}
use Rattle.session_model.specs.declared.limits.TheConstants.{MAX_BYTES}

-- the value of a result, where it has one
abbrev value_in : {A : Type 0} → Result A FromHexError → Option A
value_in (Ok x) = Some x
value_in (Err e) = None

pub digit-same : (b : ℕ) → hex_value b ≡ hex_digit_value b
digit-same b = grind (arith, nat_tests)

digit-value : (b i : ℕ) → value_in (value_at b i) ≡ hex_value b
digit-value b i = step (hex_digit_value b) refl ∙ sym (digit-same b)
  where
    step : (o : Option ℕ) → hex_digit_value b ≡ o → value_in (digit_or_error b i (hex_digit_value b)) ≡ hex_digit_value b
    step (Some v) h = rw h refl
    step None h = rw h refl

-- what two digits and the bytes after them make
abbrev joined : Option ℕ → Option ℕ → Option (List ℕ) → Option (List ℕ)
joined high low bytes = option_and_then (λ bs. option_and_then (λ h. option_map (λ l. (h * 16 + l) ∷ bs) low) high) bytes

joined-is : (high low : Result ℕ FromHexError) (bytes : Result (List ℕ) FromHexError)
    → value_in (high >>= (λ h. low >>= (λ l. Ok (h * 16 + l))) >>= (λ byte. bytes >>= (λ bs. Ok (byte ∷ bs)))) ≡ joined (value_in high) (value_in low) (value_in bytes)
joined-is (Ok h) (Ok l) (Ok bs) = refl
joined-is (Ok h) (Ok l) (Err e) = refl
joined-is (Ok h) (Err e) (Ok bs) = refl
joined-is (Ok h) (Err e) (Err f) = refl
joined-is (Err e) low (Ok bs) = refl
joined-is (Err e) low (Err f) = refl

pairs-value : (i : ℕ) (text : List ℕ) → value_in (decode_pairs i text) ≡ hex_bytes text
unfolding decode_pairs hex_bytes
pairs-value i [] = refl
pairs-value i (d ∷ []) = refl
pairs-value i (high ∷ low ∷ rest) =
    joined-is (value_at high i) (value_at low (i + 1)) (decode_pairs (i + 2) rest)
    ∙ ap (λ bytes. joined (value_in (value_at high i)) (value_in (value_at low (i + 1))) bytes) (pairs-value (i + 2) rest)
    ∙ ap (λ l. joined (value_in (value_at high i)) l (hex_bytes rest)) (digit-value low (i + 1))
    ∙ ap (λ h. joined h (hex_value low) (hex_bytes rest)) (digit-value high i)

-- ---- how many bytes there are

-- what `joined` shows of its parts
record Parts (high low : Option ℕ) (bytes : Option (List ℕ)) (all : List ℕ) : Type 0 where
  front : ℕ
  after : List ℕ
  is : bytes ≡ Some after
  all_is : front ∷ after ≡ all

parts : (high low : Option ℕ) (bytes : Option (List ℕ)) (all : List ℕ) → joined high low bytes ≡ Some all → Parts high low bytes all
parts (Some h) (Some l) (Some bs) all e = record { front = h * 16 + l; after = bs; is = refl; all_is = (let same : (h * 16 + l) ∷ bs ≡ all = cc in same) }
parts (Some h) None (Some bs) all e = absurd (let no : ⊥ = cc in no)
parts None low (Some bs) all e = absurd (let no : ⊥ = cc in no)
parts high low None all e = absurd (let no : ⊥ = cc in no)

pub hex_length : (text bytes : List ℕ) → hex_bytes text ≡ Some bytes → length text ≡ 2 * length bytes
unfolding hex_bytes
hex_length [] bytes h = let same : [] ≡ bytes = cc in rw (← same) refl
hex_length (d ∷ []) bytes h = absurd (let no : ⊥ = cc in no)
hex_length (high ∷ low ∷ rest) bytes h =
    let p = parts (hex_value high) (hex_value low) (hex_bytes rest) bytes h in
    let more = hex_length rest p.after p.is in
    let all = ap length p.all_is in
    omega (arith, more, all)

-- ---- the bytes of a write

pub hex-empty : (word : List ℕ) → length word ≡ 0 → hex_in word ≡ None
unfolding hex_bytes
hex-empty [] none = refl
hex-empty (b ∷ word) none = absurd (omega arith)

abbrev in_bounds : List ℕ → Option (List ℕ)
in_bounds bytes = cond ((length bytes == 0) || nat_lt MAX_BYTES (length bytes)) None (Some bytes)

pub hex-long : (word : List ℕ) → 8192 < length word → hex_in word ≡ None
hex-long word long = step (hex_bytes word) refl
  where
    step : (o : Option (List ℕ)) → hex_bytes word ≡ o → hex_in word ≡ None
    step None h = ap (λ o. option_and_then in_bounds o) h
    step (Some bytes) h =
        let n = hex_length word bytes h in
        ap (λ o. option_and_then in_bounds o) h
        ∙ cond-true _ _ _ (or_right (length bytes == 0) (nat_lt MAX_BYTES (length bytes)) (lt-ltb MAX_BYTES (length bytes) (omega (arith, n))))

-- the text has pairs
even-pairs : (word : List ℕ) (r : Result (List ℕ) FromHexError) → decode_of word ≡ r → value_in r ≡ hex_bytes word
even-pairs word r is = step (length word % 2 == 1) refl
  where
    odd-none : (o : Option (List ℕ)) → hex_bytes word ≡ o → (length word % 2 == 1) ≡ true → hex_bytes word ≡ None
    odd-none None h odd = h
    odd-none (Some bytes) h odd = let n = hex_length word bytes h in absurd (grind (arith, nat_tests))

    step : (t : Bool) → (length word % 2 == 1) ≡ t → value_in r ≡ hex_bytes word
    step true odd = ap (λ r. value_in r) (sym is ∙ cond-true _ _ _ odd) ∙ sym (odd-none (hex_bytes word) refl odd)
    step false even = ap (λ r. value_in r) (sym is ∙ cond-false _ _ _ even) ∙ pairs-value 0 word

pub hex-decoded : (word bytes : List ℕ) → 0 < length word → length word ≤ 8192 → decode_of word ≡ Ok bytes → Some bytes ≡ hex_in word
hex-decoded word bytes some few is =
    let found : hex_bytes word ≡ Some bytes = sym (even-pairs word (Ok bytes) is) in
    let n = hex_length word bytes found in
    sym (ap (λ o. option_and_then in_bounds o) found
    ∙ cond-false _ _ _ (or_from (length bytes == 0) (nat_lt MAX_BYTES (length bytes)) (ne_eqb (length bytes) 0 (λ z. omega (arith, n, z))) (le-ltb MAX_BYTES (length bytes) (omega (arith, n)))))

pub hex-refused : (word : List ℕ) (e : FromHexError) → decode_of word ≡ Err e → None ≡ hex_in word
hex-refused word e is = sym (ap (λ o. option_and_then in_bounds o) (sym (even-pairs word (Err e) is)))
