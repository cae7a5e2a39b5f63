-- The names of the generator's modules: they are in upper case, short, and differ.
use Rattle.std.specs.Prelude.{◌≡◌, ℕ, ◌+◌, ◌%◌, ◌/◌, ◌<◌, ◌≤◌, ◌^◌, List, [], ◌∷◌, ◌++◌, codes, drop}
use Rattle.std.specs.Char.{to_ascii_uppercase}
use Rattle.std.proofs.Common.{ap, ◌∙◌, arith}
use Rattle.std.proofs.lemmas.Fmt.{decimal_by_steps, decimal_injective, length-decimal-le_succ}
use Rattle.std.proofs.lemmas.List.{map-append}
use Rattle.lx_types.specs.Names.{uppercase, IsName}
use Rattle.gen_model.specs.Modules.{module_name, public_name}

-- ---- digits have no other case

digit_stays : (d : ℕ) → d < 10 → to_ascii_uppercase (48 + d) ≡ 48 + d
digit_stays d h = grind arith

abbrev InUpper : ℕ → List ℕ → Type 0
InUpper n text = uppercase text ≡ text

one_digit : (n : ℕ) → n < 10 → InUpper n ((48 + n) ∷ [])
one_digit n h = ap (λ (c : ℕ). c ∷ []) (digit_stays n h)

digit_more : (n : ℕ) (text : List ℕ) → 10 ≤ n → InUpper (n / 10) text → InUpper n (text ++ ((48 + n % 10) ∷ []))
digit_more n text h before =
    map-append to_ascii_uppercase text ((48 + n % 10) ∷ []) ∙ ap (λ (t : List ℕ). t ++ uppercase ((48 + n % 10) ∷ [])) before ∙ ap (λ (c : ℕ). text ++ c ∷ []) (digit_stays (n % 10) (omega arith))

pub name_in_upper : (k : ℕ) → k < 2 ^ 64 → uppercase (module_name k) ≡ module_name k
name_in_upper k small = ap (λ (t : List ℕ). codes "G" ++ t) (decimal_by_steps InUpper one_digit digit_more k small)

-- ---- they differ

pub names_differ : (i j : ℕ) → i < 2 ^ 64 → j < 2 ^ 64 → module_name i ≡ module_name j → i ≡ j
names_differ i j hi hj e = decimal_injective i j hi hj (ap (λ (t : List ℕ). drop 1 t) e)

-- ---- they are short

pub module_name_fits : (k : ℕ) → k ≤ 64 → IsName (module_name k)
module_name_fits k h = let n = length-decimal-le_succ k (omega (arith, h)) in omega (arith, n, h)

pub public_name_fits : (k : ℕ) → k ≤ 64 → IsName (public_name k)
public_name_fits k h = let n = length-decimal-le_succ k (omega (arith, h)) in omega (arith, n, h)
