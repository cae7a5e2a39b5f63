-- The names of a library's modules.
use Rattle.std.proofs.Common.{◌≡◌, ℕ, zero, suc, ◌+◌, ◌<◌, ◌≤◌, ◌⊎◌, inl, inr, Bool, true, false, cond, List, [], ◌∷◌, length, get_or, map, Some, None, sym, ◌∙◌, ap, arith}
use Rattle.std.specs.Prelude.{nat_lt, not, option_and_then}
use Rattle.std.specs.List.{AllByRecursion, position_or_len, prefix_len, range_with_len}
use Rattle.std.proofs.lemmas.Bool.{lt-ltb, cond-true}
use Rattle.std.proofs.lemmas.Slice.Eq.{bytes_eq-Decides}
use Rattle.lx_types.specs.Names.{uppercase}
use Rattle.lx_types.specs.declared.parts.Parts.{Parts}
use Rattle.lx_types.specs.declared.limits.TheConstants.{MAX_MODULES}
use Rattle.lx_model.specs.declared.library.LibraryRefusal.TheVariants.{TooManyModules, NameTwice}
use Rattle.lx_model.specs.Reading.{first}
use Rattle.lx_model.specs.Library.{module_of, has_name, module_named}
use Rattle.lx_model.specs.Gathering.{twice_at, LibraryFault, IsLibrary}
use Rattle.lx_model.proofs.Firsts.{first_none}
use Rattle.load_model.specs.Modules.{Library, name_of}
use Rattle.check_model.specs.Told.{IsByte}
use Rattle.transcript_lines.proofs.Assembly.{apart_or}

-- ---- bytes

pub all_bytes : (xs : List ℕ) → ((k : ℕ) → get_or xs k 0 < 256) → AllByRecursion IsByte xs
all_bytes [] h = tt
all_bytes (x ∷ xs) h = (h 0, all_bytes xs (λ k. h (suc k)))

-- ---- no two are one

once_each : (lib : List Parts) (n : ℕ) → LibraryFault lib ≡ None → n < length lib → twice_at lib n ≡ None
unfolding LibraryFault
once_each lib n h within = by (nat_lt MAX_MODULES (length lib)) h
  where
    by : (t : Bool) → cond t (Some (TooManyModules (length lib))) (first (map (twice_at lib) (range_with_len 0 (length lib)))) ≡ None → twice_at lib n ≡ None
    by true is = absurd (cc (is))
    by false is = first_none (twice_at lib) 0 (length lib) n is (omega arith) (omega arith)

found_by : (p : Parts → Bool) (xs : List Parts) (i : ℕ) (d : Parts) → i < length xs → p (get_or xs i d) ≡ true → position_or_len p xs ≤ i
found_by p [] i d within is = absurd (let none : ⊥ = omega arith in none)
found_by p (x ∷ xs) zero d within is =
    let here : position_or_len p (x ∷ xs) ≡ 0 = ap (λ (t : Bool). cond (not t) (1 + prefix_len (λ y. not (p y)) xs) 0) is in
    omega (arith, here)
found_by p (x ∷ xs) (suc i) d within is =
    let rest = found_by p xs i d (omega arith) is in
    by (p x) rest
  where
    by : (t : Bool) → prefix_len (λ y. not (p y)) xs ≤ i → cond (not t) (1 + prefix_len (λ y. not (p y)) xs) 0 ≤ suc i
    by true rest = omega arith
    by false rest = omega (arith, rest)

not_before : (lib : List Parts) (m n : ℕ) → LibraryFault lib ≡ None → m < n → n < length lib → (module_of lib m).name ≡ (module_of lib n).name → ⊥
not_before lib m n h lt within same =
    let p = has_name (module_of lib n).name in
    let k = position_or_len p lib in
    let is : p (module_of lib m) ≡ true = (bytes_eq-Decides (uppercase (module_of lib m).name) (uppercase (module_of lib n).name)).1 (ap uppercase same) in
    let le = found_by p lib m _ (omega arith) is in
    let low : k < n = omega (arith, le) in
    let there : k < length lib = omega (arith, le) in
    let none : twice_at lib n ≡ None = once_each lib n h within in
    let first_is : module_named lib (module_of lib n).name ≡ Some k = cond-true _ _ _ (lt-ltb k (length lib) there) in
    let some : twice_at lib n ≡ Some (NameTwice k n) =
    ap (option_and_then (λ (f : ℕ). cond (nat_lt f n) (Some (NameTwice f n)) None)) first_is ∙ cond-true _ _ _ (lt-ltb k n low) in
    cc (none, some)

pub names_apart : (lib : Library) → IsLibrary lib → (m n : ℕ) → m < length lib → n < length lib → name_of lib m ≡ name_of lib n → m ≡ n
names_apart lib h m n hm hn same = by (apart_or m n)
  where
    by : (n < m) ⊎ ((n ≡ m) ⊎ (m < n)) → m ≡ n
    by (inl lt) = absurd (not_before lib n m h.faultless lt hm (sym same))
    by (inr (inl is)) = sym is
    by (inr (inr lt)) = absurd (not_before lib m n h.faultless lt hn same)
