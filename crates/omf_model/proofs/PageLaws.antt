-- Multiples of a page's size.
use Rattle.std.proofs.Common.{◌≡◌, ℕ, zero, suc, ◌+◌, ◌-◌, ◌*◌, ◌/◌, ◌%◌, ◌<◌, ◌≤◌, refl, sym, ap, ◌∙◌, arith, inl, inr}
use Rattle.std.proofs.Math.Nat.{mod_self, mod-lt, mod-add-div', mod-eq_of_lt, add-mul, mul-le-mul_left, mul_comm, mul-add-mod_self_right}
use Rattle.std.proofs.lemmas.Bool.{cases_lt, cases_eq}

-- how many bytes are left up to the next multiple
abbrev pub up_from : ℕ → ℕ → ℕ
up_from size n = (size - n % size) % size

-- a multiple of the size
pub record IsMultiple (size n : ℕ) : Type 0 where
  pub times : ℕ
  pub is : n ≡ times * size

pub up_below : (size n : ℕ) → 1 ≤ size → up_from size n < size
up_below size n some = mod-lt (size - n % size) {m = size} (omega (arith, some))

pub up_multiple : (size n : ℕ) → 1 ≤ size → IsMultiple size (n + up_from size n)
up_multiple size n some =
    let r : ℕ = n % size in
    let small : r < size = mod-lt n {m = size} (omega (arith, some)) in
    let whole : r + n / size * size ≡ n = mod-add-div' n size in
    elim (cases_eq r 0) [
      | inl none ↦
          let k : up_from size n ≡ 0 = ap (λ (x : ℕ). (size - x) % size) none ∙ ap (λ (x : ℕ). x % size) (let whole_size : size - 0 ≡ size = omega arith in whole_size) ∙ mod_self size in
          record { times = n / size; is = omega (arith, k, whole, none) }
      | inr most ↦
          let k : up_from size n ≡ size - r = mod-eq_of_lt (let l : size - r < size = omega (arith, small, positive r most) in l) in
          record { times = n / size + 1; is = (let e : n + up_from size n ≡ n / size * size + 1 * size = omega (arith, k, whole, small) in e) ∙ sym (add-mul (n / size) 1 size) }
    ]
  where
    positive : (r : ℕ) → (r ≡ 0 → ⊥) → 1 ≤ r
    positive zero h = absurd (h refl)
    positive (suc r) h = omega arith

-- two fillings up to multiples are as long
pub up_one : (size n f k : ℕ) → IsMultiple size (n + f) → IsMultiple size (n + k) → f < size → k < size → f ≡ k
up_one size n f k a b small little =
    elim (cases_lt a.times b.times) [
      | inl lt ↦ absurd (omega (arith, a.is, b.is, grows a.times b.times lt, small, little))
      | inr le ↦ elim (cases_lt b.times a.times) [
        | inl gt ↦ absurd (omega (arith, a.is, b.is, grows b.times a.times gt, small, little))
        | inr ge ↦
            let same : a.times ≡ b.times = omega (arith, le, ge) in
            let both : n + f ≡ n + k = a.is ∙ ap (λ (t : ℕ). t * size) same ∙ sym b.is in
            omega (arith, both)
      ]
    ]
  where
    grows : (x y : ℕ) → x < y → x * size + size ≤ y * size
    grows x y lt =
        let le : size * (x + 1) ≤ size * y = mul-le-mul_left size (omega (arith, lt)) in
        let left : size * (x + 1) ≡ x * size + 1 * size = mul_comm size (x + 1) ∙ add-mul x 1 size in
        let right : size * y ≡ y * size = mul_comm size y in
        omega (arith, le, left, right)

pub multiple_sum : (size m n : ℕ) → IsMultiple size m → IsMultiple size n → IsMultiple size (m + n)
multiple_sum size m n a b = record { times = a.times + b.times; is = (λ i. a.is i + b.is i) ∙ sym (add-mul a.times b.times size) }

-- after a multiple as much is left as after 0
pub up_after : (size m n : ℕ) → IsMultiple size m → up_from size (m + n) ≡ up_from size n
up_after size m n a = ap (λ (x : ℕ). (size - x) % size) (ap (λ (y : ℕ). (y + n) % size) a.is ∙ mul-add-mod_self_right a.times size n)
