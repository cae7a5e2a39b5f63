-- Numbers and parts of files, by their places.
use Rattle.std.proofs.Common.{◌≡◌, ℕ, zero, suc, ◌+◌, ◌-◌, ◌<◌, ◌≤◌, ◌^◌, ◌⊎◌, inl, inr, Bool, true, false, ◌&&◌, List, [], ◌∷◌, ◌++◌, map, length, take, drop, get_or, refl, sym, subst, ap, ◌∙◌, arith, length-append}
use Rattle.std.specs.List.{range_with_len, list_all}
use Rattle.std.proofs.lemmas.Bool.{cases_lt}
use Rattle.std.proofs.lemmas.List.{length-take, length-drop, drop-drop, drop_at, drop-append-le, take-append-le, take_at, take-take, drop-take, ext_get_or, get_or-take, get_or-drop, map-append}
use Rattle.lx_bytes.specs.LittleEndian.{little, little_bytes}
use Rattle.lx_bytes.proofs.Numbers.{length-little_bytes, little-little_bytes}
use Rattle.lx_types.specs.Parts.{span}
use Rattle.lx_model.specs.Reading.{number_at}

-- ---- ranges

-- functions that agree on two ranges
pub map_range : {X : Type 0} (f g : ℕ → X) (a b n : ℕ) → ((k : ℕ) → k < n → f (a + k) ≡ g (b + k)) → map f (range_with_len a n) ≡ map g (range_with_len b n)
map_range f g a b zero same = refl
map_range {X} f g a b (suc n) same =
    let here : f a ≡ g b = ap f (omega arith) ∙ same 0 (omega arith) ∙ ap g (omega arith) in
    let others = map_range f g (a + 1) (b + 1) n (λ k lt. ap f (omega arith) ∙ same (suc k) (omega arith) ∙ ap g (omega arith)) in
    ap (λ (y : X). y ∷ map f (range_with_len (a + 1) n)) here ∙ ap (λ (ys : List X). g b ∷ ys) others

pub range_split : (a n k : ℕ) → range_with_len a (n + k) ≡ range_with_len a n ++ range_with_len (a + n) k
range_split a zero k = ap (range_with_len a) (omega arith) ∙ ap (λ (j : ℕ). range_with_len j k) (omega arith)
range_split a (suc n) k =
    let more : suc n + k ≡ suc (n + k) = omega arith in
    let start : a + 1 + n ≡ a + suc n = omega arith in
    ap (range_with_len a) more ∙ ap (λ (xs : List ℕ). a ∷ xs) (range_split (a + 1) n k ∙ ap (λ (j : ℕ). range_with_len (a + 1) n ++ range_with_len j k) start)

-- what a table has, in two parts
pub map_split : {X : Type 0} (f : ℕ → X) (n k : ℕ) → map f (range_with_len 0 (n + k)) ≡ map f (range_with_len 0 n) ++ map f (range_with_len n k)
map_split {X} f n k =
    ap (map f) (range_split 0 n k) ∙ map-append f (range_with_len 0 n) (range_with_len (0 + n) k)
    ∙ ap (λ (j : ℕ). map f (range_with_len 0 n) ++ map f (range_with_len j k)) (omega arith)

-- what holds of the entries of a table and of those after them
pub each_two : (P : ℕ → Type 0) (n m : ℕ) → ((k : ℕ) → k < n → P k) → ((j : ℕ) → j < m → P (n + j)) → (k : ℕ) → k < n + m → P k
each_two P n m old new k lt = elim (cases_lt k n) [
  | inl less ↦ old k less
  | inr ge ↦ subst P (omega (arith, ge)) (new (k - n) (omega (arith, ge, lt)))
]

pub all_at : {X : Type 0} (p : X → Bool) (xs : List X) (k : ℕ) (d : X) → list_all p xs ≡ true → k < length xs → p (get_or xs k d) ≡ true
all_at p [] k d e lt = absurd (omega arith)
all_at p (x ∷ xs) zero d e lt = (both (p x) (list_all p xs) e).0
  where
    both : (a b : Bool) → (a && b) ≡ true → (a ≡ true) × (b ≡ true)
    both true b e = (refl, e)
    both false b e = absurd cc
all_at p (x ∷ xs) (suc k) d e lt = all_at p xs k d (both (p x) (list_all p xs) e).1 (omega arith)
  where
    both : (a b : Bool) → (a && b) ≡ true → (a ≡ true) × (b ≡ true)
    both true b e = (refl, e)
    both false b e = absurd cc

-- ---- what a file has from a place on

pub record At (file : List ℕ) (at : ℕ) (rest : List ℕ) : Type 0 where
  pub is : drop at file ≡ rest
  pub long : at + length rest ≡ length file

pub at_start : (file : List ℕ) → At file 0 file
at_start file = record { is = refl; long = omega arith }

pub at_more : (file xs ys : List ℕ) (at k : ℕ) → At file at (xs ++ ys) → length xs ≡ k → At file (at + k) ys
at_more file xs ys at k here len = record {
  is = sym (drop-drop k at file) ∙ ap (drop k) here.is ∙ drop_at xs ys k len;
  long = (let all = here.long in let parts = length-append xs ys in omega (arith, all, parts, len));
}

pub at_place : (file rest : List ℕ) (a b : ℕ) → a ≡ b → At file a rest → At file b rest
at_place file rest a b e here = subst (λ (p : ℕ). At file p rest) e here

pub at_same : (file xs ys : List ℕ) (a : ℕ) → xs ≡ ys → At file a xs → At file a ys
at_same file xs ys a e here = subst (At file a) e here

-- a number in the first of the bytes there
pub number_front : (n at j : ℕ) (file xs ys : List ℕ) → At file at (xs ++ ys) → j + n ≤ length xs → number_at n file (at + j) ≡ number_at n xs j
number_front n at j file xs ys here le =
    let there = drop-append-le j xs ys (omega (arith, le)) in
    let rest = length-drop j xs in
    ap (λ (zs : List ℕ). little (take n zs)) (sym (drop-drop j at file) ∙ ap (drop j) here.is ∙ there)
    ∙ ap little (take-append-le n (drop j xs) ys (omega (arith, rest, le)))

pub length_span : (file : List ℕ) (a len : ℕ) → a + len ≤ length file → length (span file a (a + len)) ≡ len
length_span file a len le =
    let some = length-take (a + len - a) (drop a file) in
    let rest = length-drop a file in
    omega (arith, some, rest, le)

pub span_none : (file : List ℕ) (a : ℕ) → length (span file a (a + 0)) ≡ 0
span_none file a = let some = length-take (a + 0 - a) (drop a file) in omega (arith, some)

pub span_is : (file : List ℕ) (a len : ℕ) → span file a (a + len) ≡ take len (drop a file)
span_is file a len = ap (λ (k : ℕ). take k (drop a file)) (omega arith)

number_span : (n a len j : ℕ) (file : List ℕ) → j + n ≤ len → number_at n (span file a (a + len)) j ≡ number_at n file (a + j)
number_span n a len j file le =
    let m = len - j in
    let whole : len ≡ j + m = omega (arith, le) in
    let cut : drop j (span file a (a + len)) ≡ take m (drop j (drop a file)) =
    ap (drop j) (span_is file a len) ∙ ap (λ (k : ℕ). drop j (take k (drop a file))) whole ∙ drop-take j m (drop a file) in
    ap (λ (zs : List ℕ). little (take n zs)) cut ∙ ap little (take-take n m (drop j (drop a file)) (omega (arith, le)))
    ∙ ap (λ (zs : List ℕ). little (take n zs)) (drop-drop j a file)

-- a number of bytes that were copied
pub moved : (n at j a len : ℕ) (now file ys : List ℕ) → At now at (span file a (a + len) ++ ys) → a + len ≤ length file → j + n ≤ len → number_at n now (at + j) ≡ number_at n file (a + j)
moved n at j a len now file ys here there le =
    let size = length_span file a len there in
    number_front n at j now (span file a (a + len)) ys here (omega (arith, size, le)) ∙ number_span n a len j file le

-- a number that is spelled after some bytes
pub number_spelled : (n v at j : ℕ) (file xs ys : List ℕ) → At file at (xs ++ (little_bytes n v ++ ys)) → length xs ≡ j → v < 256 ^ n → number_at n file (at + j) ≡ v
number_spelled n v at j file xs ys here len fits =
    let place = at_more file xs (little_bytes n v ++ ys) at j here len in
    ap (λ (zs : List ℕ). little (take n zs)) place.is ∙ ap little (take_at (little_bytes n v) ys n (length-little_bytes n v)) ∙ little-little_bytes n v fits

-- ---- bytes that stand

-- so many bytes from a place on are the same
abbrev pub Same : List ℕ → List ℕ → ℕ → ℕ → Type 0
Same file now at len = (x : ℕ) → at ≤ x → x < at + len → get_or now x 0 ≡ get_or file x 0

pub take_same : (file now : List ℕ) (at len : ℕ) → at + len ≤ length file → length file ≤ length now → Same file now at len → take len (drop at now) ≡ take len (drop at file)
take_same file now at len there long same =
    let one = length-take len (drop at now) in
    let rest = length-drop at now in
    let other = length-take len (drop at file) in
    let left = length-drop at file in
    ext_get_or 0 (take len (drop at now)) (take len (drop at file)) (omega (arith, one, rest, other, left, there, long)) (λ i lt.
    let in_part : i < len = omega (arith, lt, one) in
    get_or-take len (drop at now) i 0 in_part ∙ get_or-drop at now i 0 ∙ same (at + i) (omega arith) (omega (arith, in_part))
    ∙ sym (get_or-take len (drop at file) i 0 in_part ∙ get_or-drop at file i 0))

pub number_same : (n : ℕ) (file now : List ℕ) (at : ℕ) → at + n ≤ length file → length file ≤ length now → Same file now at n → number_at n now at ≡ number_at n file at
number_same n file now at there long same = ap little (take_same file now at n there long same)

pub span_same : (file now : List ℕ) (at len : ℕ) → at + len ≤ length file → length file ≤ length now → Same file now at len → span now at (at + len) ≡ span file at (at + len)
span_same file now at len there long same = span_is now at len ∙ take_same file now at len there long same ∙ sym (span_is file at len)

pub same_part : (file now : List ℕ) (at len a n : ℕ) → Same file now at len → at ≤ a → a + n ≤ at + len → Same file now a n
same_part file now at len a n same low high x le lt = same x (omega (arith, low, le)) (omega (arith, high, lt))

-- ---- tables

-- a table of so many bytes lies in the file, or has none
abbrev pub IsThere : List ℕ → ℕ → ℕ → Type 0
IsThere file a len = (len ≡ 0) ⊎ (a + len ≤ length file)

pub length_table : (file : List ℕ) (a len : ℕ) → IsThere file a len → length (span file a (a + len)) ≡ len
length_table file a len (inl none) = let some = length-take (a + len - a) (drop a file) in omega (arith, some, none)
length_table file a len (inr le) = length_span file a len le

-- a number of a table that was copied
pub copied : (n at j a len : ℕ) (now file ys : List ℕ) → At now at (span file a (a + len) ++ ys) → IsThere file a len → 0 < n → j + n ≤ len → number_at n now (at + j) ≡ number_at n file (a + j)
copied n at j a len now file ys here (inl none) some le = absurd (omega arith)
copied n at j a len now file ys here (inr there) some le = moved n at j a len now file ys here there le
