-- How often calls have failed, call by call.
use Rattle.std.proofs.Common.{◌≡◌, ℕ, ◌+◌, ◌<◌, Bool, true, cond, List, ◌∷◌, ◌++◌, ap, arith, count_by}
use Rattle.std.proofs.lemmas.List.Sums.{sum_by-append, sum_by-cons}
use Rattle.lx_ports.specs.Calls.{Call}

pub count-append : (p : Call → Bool) (xs ys : List Call) → count_by p (xs ++ ys) ≡ count_by p xs + count_by p ys
count-append p xs ys = sum_by-append (λ x. cond (p x) 1 0) xs ys

-- What is counted is counted after one call more.
pub count_after : (p : Call → Bool) (x : Call) (xs : List Call) → 0 < count_by p xs → 0 < count_by p (x ∷ xs)
count_after p x xs some =
    let all = sum_by-cons (λ y. cond (p y) 1 0) x xs in
    omega (arith, all, some)

-- Where none is counted, none is after the first call, and the first is none.
pub none_after : (p : Call → Bool) (x : Call) (xs : List Call) → count_by p (x ∷ xs) ≡ 0 → count_by p xs ≡ 0
none_after p x xs none =
    let all = sum_by-cons (λ y. cond (p y) 1 0) x xs in
    omega (arith, all, none)

pub not_first : (p : Call → Bool) (x : Call) (xs : List Call) → p x ≡ true → count_by p (x ∷ xs) ≡ 0 → ⊥
not_first p x xs is none =
    let all = sum_by-cons (λ y. cond (p y) 1 0) x xs in
    let one : ◌≡◌ {A = ℕ} (cond (p x) 1 0) 1 = ap (λ (b : Bool). cond b 1 0) is in
    omega (arith, all, one, none)
