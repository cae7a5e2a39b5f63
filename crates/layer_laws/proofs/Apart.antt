-- Lists whose items are apart: no item equals one after it.
use Rattle.std.specs.Prelude.{◌≡◌, ◌≢◌, ℕ, zero, suc, ◌+◌, ◌≤◌, Bool, true, false, cond, List, [], ◌∷◌, ◌++◌, None, map, filter, refl}
use Rattle.std.specs.List.{AllByRecursion, list_any, range_with_len}
use Rattle.std.proofs.Common.{sym, ◌∙◌, arith}
use Rattle.std.proofs.lemmas.List.Folds.{list_any-append}
use Rattle.std.proofs.lemmas.Bool.{or_parts}
use Rattle.lx_types.proofs.Lists.{all_kept}
use Rattle.link_model.specs.Words.{first_conflict}
use Rattle.link_model.proofs.Members.{In, here, there}
use Rattle.link_model.proofs.ExternalsMean.{not_first_by}

abbrev pub Apart : {X : Type 0} → List X → Type 0
Apart [] = Unit {0}
Apart (x ∷ xs) = AllByRecursion (λ y. x ≢ y) xs × Apart xs

-- ---- where no item is in conflict with an earlier one

-- No item of xs equals one of these.
abbrev NoneOf : {X : Type 0} → (X → X → Bool) → List X → List X → Type 0
NoneOf same earlier xs = AllByRecursion (λ y. list_any (λ z. same z y) earlier ≡ false) xs

fewer_earlier : {X : Type 0} (same : X → X → Bool) (x : X) (earlier ys : List X) → NoneOf same (earlier ++ x ∷ []) ys → NoneOf same earlier ys
fewer_earlier same x earlier [] h = tt
fewer_earlier same x earlier (y ∷ ys) h =
    ((or_parts (list_any (λ z. same z y) earlier) (list_any (λ z. same z y) (x ∷ [])) (sym (list_any-append (λ z. same z y) earlier (x ∷ [])) ∙ h.0)).0, fewer_earlier same x earlier ys h.1)

none_earlier : {X : Type 0} (same : X → X → Bool) (earlier xs : List X) → first_conflict same earlier xs ≡ None → NoneOf same earlier xs
none_earlier same earlier [] e = tt
none_earlier same earlier (x ∷ xs) e =
    let both = not_first_by x (first_conflict same (earlier ++ x ∷ []) xs) (list_any (λ y. same y x) earlier) e in
    (both.0, fewer_earlier same x earlier xs (none_earlier same (earlier ++ x ∷ []) xs both.1))

last_apart : {X : Type 0} (same : X → X → Bool) → ((x y : X) → same x y ≡ false → x ≢ y) → (x : X) (earlier ys : List X) → NoneOf same (earlier ++ x ∷ []) ys → AllByRecursion (λ y. x ≢ y) ys
last_apart same differ x earlier [] h = tt
last_apart same differ x earlier (y ∷ ys) h =
    let last = (or_parts (list_any (λ z. same z y) earlier) (list_any (λ z. same z y) (x ∷ [])) (sym (list_any-append (λ z. same z y) earlier (x ∷ [])) ∙ h.0)).1 in
    (differ x y (or_parts (same x y) false last).0, last_apart same differ x earlier ys h.1)

pub no-conflict-apart : {X : Type 0} (same : X → X → Bool) → ((x y : X) → same x y ≡ false → x ≢ y) → (earlier xs : List X) → first_conflict same earlier xs ≡ None → Apart xs
no-conflict-apart same differ earlier [] e = tt
no-conflict-apart same differ earlier (x ∷ xs) e =
    let rest = (not_first_by x (first_conflict same (earlier ++ x ∷ []) xs) (list_any (λ y. same y x) earlier) e).1 in
    (last_apart same differ x earlier xs (none_earlier same (earlier ++ x ∷ []) xs rest), no-conflict-apart same differ (earlier ++ x ∷ []) xs rest)

-- ---- items with one key are one item

key_apart : {X K : Type 0} (key : X → K) (z : X) (ys : List X) {y : X} → AllByRecursion (λ k. key z ≢ k) (map key ys) → In y ys → key z ≡ key y → ⊥
key_apart key z [] all j e = elim j [ ]
key_apart key z (y ∷ ys) all here e = all.0 e
key_apart key z (y ∷ ys) all (there j) e = key_apart key z ys all.1 j e

pub one-of-key : {X K : Type 0} (key : X → K) (xs : List X) {x y : X} → Apart (map key xs) → In x xs → In y xs → key x ≡ key y → x ≡ y
one-of-key key [] apart i j e = elim i [ ]
one-of-key key (z ∷ xs) apart here here e = refl
one-of-key key (z ∷ xs) apart here (there j) e = absurd (key_apart key z xs apart.0 j e)
one-of-key key (z ∷ xs) apart (there i) here e = absurd (key_apart key z xs apart.0 i (sym e))
one-of-key key (z ∷ xs) apart (there i) (there j) e = one-of-key key xs apart.1 i j e

-- ---- numbers that are kept of a row of numbers

pub kept-apart : {X : Type 0} (keep : X → Bool) (xs : List X) → Apart xs → Apart (filter keep xs)
kept-apart keep [] apart = tt
kept-apart keep (x ∷ xs) apart = by (keep x) (kept-apart keep xs apart.1)
  where
    by : (b : Bool) → Apart (filter keep xs) → Apart (cond b (x ∷ filter keep xs) (filter keep xs))
    by true rest = (all_kept (λ y. x ≢ y) keep xs apart.0, rest)
    by false rest = rest

pub range-from : (a b n : ℕ) → a ≤ b → AllByRecursion (λ k. a ≤ k) (range_with_len b n)
range-from a b zero le = tt
range-from a b (suc n) le = (le, range-from a (b + 1) n (omega (arith, le)))

above_apart : (a : ℕ) (ks : List ℕ) → AllByRecursion (λ k. a + 1 ≤ k) ks → AllByRecursion (λ k. a ≢ k) ks
above_apart a [] all = tt
above_apart a (k ∷ ks) all = (below a k all.0, above_apart a ks all.1)
  where
    below : (b c : ℕ) → b + 1 ≤ c → b ≢ c
    below b c h e = absurd (omega (arith, h, e))

pub range-apart : (a n : ℕ) → Apart (range_with_len a n)
range-apart a zero = tt
range-apart a (suc n) = (above_apart a (range_with_len (a + 1) n) (range-from (a + 1) (a + 1) n (omega arith)), range-apart (a + 1) n)
