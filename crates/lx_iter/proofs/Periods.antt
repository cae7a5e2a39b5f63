-- The data of a page, and bytes that repeat a pattern.
use Rattle.std.proofs.Common.{◌≡◌, ℕ, zero, suc, ◌+◌, ◌*◌, ◌/◌, ◌%◌, ◌-◌, ◌≤◌, ◌<◌, Bool, true, false, cond, ◌&&◌, eqb, List, [], ◌∷◌, ◌++◌, length, take, drop, get_or, refl, sym, ap, subst, ◌∙◌, arith, length-drop}
use Rattle.std.specs.Bool.{Decides}
use Rattle.std.specs.List.{repeat}
use Rattle.std.specs.Prelude.{bytes_eq, nat_eq, find, Some}
use Rattle.std.specs.Cmp.Lexicographic.{pointwise}
use Rattle.std.proofs.lemmas.Bool.{eq-eqb}
use Rattle.std.proofs.lemmas.Bool.Decides.{Decides-eqb, Decides-like, same_from_decides}
use Rattle.std.proofs.lemmas.Slice.Eq.{slice_eq-Decides, bytes_eq-Decides}
use Rattle.std.proofs.lemmas.List.{nil_from_length, take-append-drop, take-take, take_at, drop_at, drop-take, take_more, drop_more, take_rest, length-take-le}
use Rattle.std.proofs.Math.Nat.{mod-add-div}
use Rattle.lx_model.specs.Packed.{before_data, data_of, repeats}
use Rattle.lx_iter.proofs.Repeats.{repeat_end, length-repeat}

-- ---- the data of a page

data_zero : (xs : List ℕ) → data_of (xs ++ 0 ∷ []) ≡ data_of xs
data_zero [] = refl
data_zero (x ∷ xs) = ap (before_data x) (data_zero xs)

before_some : (x : ℕ) (xs : List ℕ) (b : ℕ) → before_data x (xs ++ b ∷ []) ≡ x ∷ xs ++ b ∷ []
before_some zero [] b = refl
before_some zero (y ∷ ys) b = refl
before_some (suc x) xs b = refl

data_last : (xs : List ℕ) (b : ℕ) → 0 < b → data_of (xs ++ b ∷ []) ≡ xs ++ b ∷ []
data_last [] zero lt = absurd (omega (arith, lt))
data_last [] (suc b) lt = refl
data_last (x ∷ xs) b lt = ap (before_data x) (data_last xs b lt) ∙ before_some x xs b

front : (page : List ℕ) (end : ℕ) → 0 < end → end ≤ length page → take end page ≡ take (end - 1) page ++ get_or page (end - 1) 0 ∷ []
front page end some fits =
    let next : end - 1 + 1 ≡ end = omega (arith, some) in
    ap (λ (n : ℕ). take n page) (sym next) ∙ take_more page (end - 1) 0 (omega (arith, some, fits))

pub data_less : (page : List ℕ) (end : ℕ) → 0 < end → end ≤ length page → get_or page (end - 1) 0 ≡ 0 → data_of page ≡ data_of (take end page) → data_of page ≡ data_of (take (end - 1) page)
data_less page end some fits none same =
    same ∙ ap data_of (front page end some fits) ∙ ap (λ (b : ℕ). data_of (take (end - 1) page ++ b ∷ [])) none ∙ data_zero (take (end - 1) page)

pub data_ends : (page : List ℕ) (end : ℕ) → 0 < end → end ≤ length page → 0 < get_or page (end - 1) 0 → data_of page ≡ data_of (take end page) → take end page ≡ data_of page
data_ends page end some fits last same =
    let is = front page end some fits in
    sym (same ∙ ap data_of is ∙ data_last (take (end - 1) page) (get_or page (end - 1) 0) last ∙ sym is)

pub data_none : (page : List ℕ) (end : ℕ) → end ≤ 0 → data_of page ≡ data_of (take end page) → take end page ≡ data_of page
data_none page end none same = let nothing : end ≡ 0 = omega (arith, none) in let is : take end page ≡ [] = ap (λ (n : ℕ). take n page) nothing in sym (same ∙ ap data_of is ∙ sym is)

-- ---- a pattern

-- bytes that go on as they begin repeat their first p
goes_on : (m p : ℕ) (d : List ℕ) → length d ≡ suc m * p → drop p d ≡ take (length d - p) d → repeat (suc m) (take p d) ≡ d
goes_on zero p d size e =
    let nothing : drop p d ≡ [] = nil_from_length (drop p d) (omega (arith, length-drop p d, size)) in
    ap (λ (xs : List ℕ). take p d ++ xs) (sym nothing) ∙ take-append-drop p d
goes_on (suc k) p d size e =
    let rest = drop p d in
    let len : length rest ≡ suc k * p = omega (arith, length-drop p d, size) in
    let split : length d - p ≡ p + (length rest - p) = omega (arith, length-drop p d, size) in
    let on : drop p rest ≡ take (length rest - p) rest = ap (drop p) e ∙ ap (λ (n : ℕ). drop p (take n d)) split ∙ drop-take p (length rest - p) d in
    let same : take p rest ≡ take p d = ap (take p) e ∙ take-take p (length d - p) d (omega (arith, split)) in
    let all : repeat (suc k) (take p d) ≡ rest = subst (λ (xs : List ℕ). repeat (suc k) xs ≡ rest) same (goes_on k p rest len on) in
    ap (λ (xs : List ℕ). take p d ++ xs) all ∙ take-append-drop p d

came_on : (m p : ℕ) (d : List ℕ) → length d ≡ suc m * p → p ≤ length d → repeat (suc m) (take p d) ≡ d → drop p d ≡ take (length d - p) d
came_on m p d size fits e =
    let x = take p d in
    let len : length x ≡ p = length-take-le p d fits in
    let others : drop p d ≡ repeat m x = ap (drop p) (sym e) ∙ drop_at x (repeat m x) p len in
    let before : length (repeat m x) ≡ length d - p = length-repeat m x ∙ ap (λ (n : ℕ). m * n) len ∙ (omega (arith, size)) in
    let front : take (length d - p) d ≡ repeat m x = ap (take (length d - p)) (sym e ∙ repeat_end m x) ∙ take_at (repeat m x) x (length d - p) before in
    others ∙ sym front

by_count : (q p : ℕ) (d : List ℕ) (r : Bool) → 0 < length d → length d ≡ q * p → Decides r (drop p d ≡ take (length d - p) d) → Decides r (repeat q (take p d) ≡ d)
by_count zero p d r all size is = absurd (omega (arith, all, size))
by_count (suc m) p d r all size is =
    Decides-like r (goes_on m p d size) (came_on m p d size (omega (arith, size))) is

pub repeats_is : (d : List ℕ) (p : ℕ) (r : Bool) → 0 < p → 0 < length d → length d % p ≡ 0 → r ≡ pointwise nat_eq (take (length d - p) (drop p d)) (take (length d - p) d) → r ≡ repeats d p
repeats_is d p r some all divides is =
    let q = length d / p in
    let size : length d ≡ q * p = omega (arith, divides, some, mod-add-div (length d) p) in
    let rest : Decides r (take (length d - p) (drop p d) ≡ take (length d - p) d) = slice_eq-Decides Decides-eqb (take (length d - p) (drop p d)) (take (length d - p) d) r is in
    let on : Decides r (drop p d ≡ take (length d - p) d) = subst (λ (xs : List ℕ). Decides r (xs ≡ take (length d - p) d)) (take_rest d p) rest in
    let same : r ≡ bytes_eq (repeat q (take p d)) d = same_from_decides r (bytes_eq (repeat q (take p d)) d) (by_count q p d r all size on) (bytes_eq-Decides (repeat q (take p d)) d) in
    let test : eqb (length d % p) 0 ≡ true = eq-eqb (length d % p) 0 divides in
    same ∙ ap (λ (t : Bool). t && bytes_eq (repeat q (take p d)) d) (sym test)

-- a pattern that does not repeat is passed over
pub passed : (test : ℕ → Bool) (ps : List ℕ) (i d : ℕ) → i < length ps → false ≡ test (get_or ps i d) → find test ps ≡ find test (drop i ps) → find test ps ≡ find test (drop (i + 1) ps)
passed test ps i d lt wrong same =
    same ∙ ap (find test) (drop_more ps i d lt) ∙ ap (λ (t : Bool). cond t (Some (get_or ps i d)) (find test (drop (i + 1) ps))) (sym wrong)
