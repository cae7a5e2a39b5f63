-- Numbers that are set in a file, one after the other, at offsets from a place that are apart.
use Rattle.std.proofs.Common.{◌≡◌, ℕ, ◌+◌, ◌<◌, ◌≤◌, ◌^◌, ◌⊎◌, inl, inr, Bool, true, false, ◌&&◌, ◌||◌, leb, List, [], ◌∷◌, ◌++◌, length, take, drop, refl, ap, ◌∙◌, append_assoc, arith}
use Rattle.std.specs.List.{list_all}
use Rattle.std.proofs.lemmas.Bool.Decides.{nat_tests}
use Rattle.std.proofs.lemmas.List.{length-take, take_at, drop_at}
use Rattle.std.proofs.lemmas.Bool.{and_parts}
use Rattle.lx_bytes.specs.LittleEndian.{little, little_bytes}
use Rattle.lx_bytes.proofs.Numbers.{length-little_bytes, little-little_bytes}
use Rattle.lx_model.specs.declared.header_fields.TheConstants.{HEAP_SIZE}
use Rattle.lx_model.specs.Reading.{number_at}
use Rattle.res_model.specs.Bound.{with_number}
use Rattle.res_bind.proofs.Kept.{number_length, number_stands, Outside}
use Rattle.res_laws.proofs.Lists.{number_same}

-- ---- one number

-- two fields of four bytes have no byte in common
abbrev pub are_two : ℕ → ℕ → Bool
are_two o p = leb (o + 4) p || leb (p + 4) o

two_apart : (o p place : ℕ) → are_two o p ≡ true → (place + o + 4 ≤ place + p) ⊎ (place + p + 4 ≤ place + o)
two_apart o p place e = by_first (leb (o + 4) p) refl e
  where
    by_first : (b : Bool) → leb (o + 4) p ≡ b → (b || leb (p + 4) o) ≡ true → (place + o + 4 ≤ place + p) ⊎ (place + p + 4 ≤ place + o)
    by_first true is e' = inl (grind (arith, nat_tests))
    by_first false is e' = inr (grind (arith, nat_tests))

set_is : (at v : ℕ) (file : List ℕ) → at + 4 ≤ length file → v < 2 ^ 32 → number_at 4 (with_number at v file) at ≡ v
unfolding with_number
set_is at v file le fits =
    let front = length-take at file in
    let rest = drop (at + 4) file in
    ap (λ (xs : List ℕ). little (take 4 (drop at xs))) (append_assoc (take at file) (little_bytes 4 v) rest)
    ∙ ap (λ (xs : List ℕ). little (take 4 xs)) (drop_at (take at file) (little_bytes 4 v ++ rest) at (omega (arith, front, le)))
    ∙ ap little (take_at (little_bytes 4 v) rest 4 (length-little_bytes 4 v)) ∙ little-little_bytes 4 v fits

outside : (at b x : ℕ) → (at + 4 ≤ b) ⊎ (b + 4 ≤ at) → b ≤ x → x < b + 4 → Outside at x
outside at b x (inl le) low high = inr (omega arith)
outside at b x (inr le) low high = inl (omega arith)

other_is : (at v b : ℕ) (file : List ℕ) → at + 4 ≤ length file → b + 4 ≤ length file → (at + 4 ≤ b) ⊎ (b + 4 ≤ at) → number_at 4 (with_number at v file) b ≡ number_at 4 file b
other_is at v b file le there apart =
    let long = number_length at v file le in
    number_same 4 file (with_number at v file) b there (omega (arith, long)) (λ x low high. number_stands at v x file le (outside at b x apart low high))

-- ---- several

-- offsets and numbers
abbrev pub set_all : List (ℕ × ℕ) → ℕ → List ℕ → List ℕ
set_all [] place file = file
set_all (s ∷ sets) place file = set_all sets place (with_number (place + s.0) s.1 file)

-- they lie in the header's first ACh bytes, and apart from one
abbrev pub lie_apart : ℕ → List (ℕ × ℕ) → Bool
lie_apart o sets = list_all (λ s. leb s.0 HEAP_SIZE && are_two s.0 o) sets

fits_in : (o place len : ℕ) → leb o HEAP_SIZE ≡ true → place + 0xAC ≤ len → place + o + 4 ≤ len
fits_in o place len e le = grind (arith, nat_tests)

pub all_others : (sets : List (ℕ × ℕ)) (place o : ℕ) (file : List ℕ) → lie_apart o sets ≡ true → leb o HEAP_SIZE ≡ true → place + 0xAC ≤ length file → number_at 4 (set_all sets place file) (place + o) ≡ number_at 4 file (place + o)
all_others [] place o file e there long = refl
all_others (s ∷ sets) place o file e there long =
    let test = and_parts (leb s.0 HEAP_SIZE && are_two s.0 o) (lie_apart o sets) e in
    let parts = and_parts (leb s.0 HEAP_SIZE) (are_two s.0 o) test.0 in
    let le = fits_in s.0 place (length file) parts.0 long in
    let size = number_length (place + s.0) s.1 file le in
    all_others sets place o (with_number (place + s.0) s.1 file) test.1 there (omega (arith, size, long))
    ∙ other_is (place + s.0) s.1 (place + o) file le (fits_in o place (length file) there long) (two_apart s.0 o place parts.1)

pub all_set : (before : List (ℕ × ℕ)) (o v : ℕ) (after : List (ℕ × ℕ)) (place : ℕ) (file : List ℕ) → list_all (λ s. leb s.0 HEAP_SIZE) before ≡ true → lie_apart o after ≡ true → leb o HEAP_SIZE ≡ true → v < 2 ^ 32 → place + 0xAC ≤ length file →
    number_at 4 (set_all (before ++ (o, v) ∷ after) place file) (place + o) ≡ v
all_set [] o v after place file b e there fits long =
    let le = fits_in o place (length file) there long in
    let size = number_length (place + o) v file le in
    all_others after place o (with_number (place + o) v file) e there (omega (arith, size, long)) ∙ set_is (place + o) v file le fits
all_set (s ∷ before) o v after place file b e there fits long =
    let test = and_parts (leb s.0 HEAP_SIZE) (list_all (λ t. leb t.0 HEAP_SIZE) before) b in
    let le = fits_in s.0 place (length file) test.0 long in
    let size = number_length (place + s.0) s.1 file le in
    all_set before o v after place (with_number (place + s.0) s.1 file) test.1 e there fits (omega (arith, size, long))
