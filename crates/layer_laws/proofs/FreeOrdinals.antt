-- There is a free ordinal for each export that asks for none, and it is no other export's.
use Rattle.std.specs.Prelude.{◌≡◌, ◌≢◌, ℕ, zero, suc, ◌+◌, ◌<◌, ◌≤◌, ◌==◌, ◌||◌, Bool, true, false, cond, not, List, [], ◌∷◌, Option, filter, length, get_or, refl}
use Rattle.std.specs.List.{AllByRecursion, list_any, range_with_len}
use Rattle.std.proofs.Common.{arith, subst}
use Rattle.std.proofs.lemmas.Bool.Decides.{nat_tests}
use Rattle.std.proofs.lemmas.List.Filters.{length-filter_both}
use Rattle.std.proofs.lemmas.List.FromFn.{length-range_with_len}
use Rattle.std.proofs.lemmas.Bool.{or_parts, not-true}
use Rattle.image_model.proofs.RecordsFit.{passing}
use Rattle.lx_types.proofs.Lists.{all_kept}
use Rattle.link_model.specs.Exports.{given, free_ordinals}
use Rattle.layer_laws.proofs.Apart.{Apart, kept-apart, range-from, range-apart}

pub none-equal : (n m : ℕ) → (n == m) ≡ false → n ≢ m
none-equal n m e same = absurd (grind (arith, nat_tests, e, same))

-- ---- how many there are

either : (p q : ℕ → Bool) (ns : List ℕ) → length (filter (λ k. p k || q k) ns) ≤ length (filter p ns) + length (filter q ns)
either p q [] = omega arith
either p q (n ∷ ns) = by (p n) (q n) (filter (λ k. p k || q k) ns) (filter p ns) (filter q ns) (either p q ns)
  where
    by : (a b : Bool) (es ps qs : List ℕ) → length es ≤ length ps + length qs → length (cond (a || b) (n ∷ es) es) ≤ length (cond a (n ∷ ps) ps) + length (cond b (n ∷ qs) qs)
    by true true es ps qs le = omega (arith, le)
    by true false es ps qs le = omega (arith, le)
    by false true es ps qs le = omega (arith, le)
    by false false es ps qs le = omega (arith, le)

none_left : (g : ℕ) (ns : List ℕ) → AllByRecursion (λ k. g ≢ k) ns → length (filter (λ k. g == k) ns) ≤ 0
none_left g [] all = omega arith
none_left g (n ∷ ns) all = by (g == n) refl (filter (λ k. g == k) ns) (none_left g ns all.1)
  where
    by : (b : Bool) → (g == n) ≡ b → (ms : List ℕ) → length ms ≤ 0 → length (cond b (n ∷ ms) ms) ≤ 0
    by true is ms le = absurd (all.0 (grind (arith, nat_tests, is)))
    by false is ms le = le

equal_once : (g : ℕ) (ns : List ℕ) → Apart ns → length (filter (λ k. g == k) ns) ≤ 1
equal_once g [] apart = omega arith
equal_once g (n ∷ ns) apart = by (g == n) refl (equal_once g ns apart.1)
  where
    by : (b : Bool) → (g == n) ≡ b → length (filter (λ k. g == k) ns) ≤ 1 → length (cond b (n ∷ filter (λ k. g == k) ns) (filter (λ k. g == k) ns)) ≤ 1
    by true is le = let same : n ≡ g = grind (arith, nat_tests, is) in let none = none_left g ns (subst (λ (m : ℕ). AllByRecursion (λ k. m ≢ k) ns) same apart.0) in omega (arith, none)
    by false is le = le

none_taken : (ns : List ℕ) → length (filter (λ k. false) ns) ≤ 0
none_taken [] = omega arith
none_taken (m ∷ ms) = none_taken ms

taken_few : (numbers ns : List ℕ) → Apart ns → length (filter (λ k. list_any (λ g. g == k) numbers) ns) ≤ length numbers
taken_few [] ns apart = none_taken ns
taken_few (g ∷ gs) ns apart = omega (arith, either (λ k. g == k) (λ k. list_any (λ h. h == k) gs) ns, equal_once g ns apart, taken_few gs ns apart)

pub enough-free : (os : List (Option ℕ)) → length os ≤ length (free_ordinals os)
enough-free os =
    let ns = range_with_len 1 (length (given os) + length os) in
    let both = length-filter_both (λ k. list_any (λ g. g == k) (given os)) (λ k. not (list_any (λ g. g == k) (given os))) (λ k. refl) ns in
    omega (arith, both, taken_few (given os) ns (range-apart 1 (length (given os) + length os)), length-range_with_len 1 (length (given os) + length os))

-- ---- what they are

pub free-apart : (os : List (Option ℕ)) → Apart (free_ordinals os)
free-apart os = kept-apart (λ n. not (list_any (λ g. g == n) (given os))) (range_with_len 1 (length (given os) + length os)) (range-apart 1 (length (given os) + length os))

pub free-some : (os : List (Option ℕ)) → AllByRecursion (λ n. 1 ≤ n) (free_ordinals os)
free-some os = all_kept (λ n. 1 ≤ n) (λ n. not (list_any (λ g. g == n) (given os))) (range_with_len 1 (length (given os) + length os)) (range-from 1 1 (length (given os) + length os) (omega arith))

none_same : (n : ℕ) (gs : List ℕ) → list_any (λ g. g == n) gs ≡ false → AllByRecursion (λ g. g ≢ n) gs
none_same n [] e = tt
none_same n (g ∷ gs) e = let both = or_parts (g == n) (list_any (λ h. h == n) gs) e in (none-equal g n both.0, none_same n gs both.1)

each_free : (gs ns : List ℕ) → AllByRecursion (λ n. not (list_any (λ g. g == n) gs) ≡ true) ns → AllByRecursion (λ n. AllByRecursion (λ g. g ≢ n) gs) ns
each_free gs [] all = tt
each_free gs (n ∷ ns) all = (none_same n gs (not-true (list_any (λ g. g == n) gs) all.0), each_free gs ns all.1)

-- No free ordinal is given.
pub free-not-given : (os : List (Option ℕ)) → AllByRecursion (λ n. AllByRecursion (λ g. g ≢ n) (given os)) (free_ordinals os)
free-not-given os = each_free (given os) (free_ordinals os) (passing (λ n. not (list_any (λ g. g == n) (given os))) (range_with_len 1 (length (given os) + length os)))

-- ---- at places

pub all-at : (P : ℕ → Type 0) (xs : List ℕ) (k : ℕ) → AllByRecursion P xs → k < length xs → P (get_or xs k 0)
all-at P [] k all h = absurd (omega (arith, h))
all-at P (x ∷ xs) zero all h = all.0
all-at P (x ∷ xs) (suc k) all h = all-at P xs k all.1 (omega (arith, h))

pub apart-at : (xs : List ℕ) (j k : ℕ) → Apart xs → j < k → k < length xs → get_or xs j 0 ≢ get_or xs k 0
apart-at [] j k apart lt h = absurd (omega (arith, h))
apart-at (x ∷ xs) j zero apart lt h = absurd (omega (arith, lt))
apart-at (x ∷ xs) zero (suc k) apart lt h = all-at (λ y. x ≢ y) xs k apart.0 (omega (arith, h))
apart-at (x ∷ xs) (suc j) (suc k) apart lt h = apart-at xs j k apart.1 (omega (arith, lt)) (omega (arith, h))
