-- Multiples of a unit.
use Rattle.std.proofs.Common.{ℕ, zero, suc, ◌+◌, ◌-◌, ◌*◌, ◌/◌, ◌%◌, ◌^◌, ◌<◌, ◌≤◌, arith}
use Rattle.std.proofs.lemmas.Nat.{div-add-mod'}
use Rattle.res_model.specs.Placed.{up_to_unit}

pub unit_below : (n unit : ℕ) → n / unit * unit ≤ n
unit_below n unit = let whole = div-add-mod' n unit in omega (arith, whole)

pub unit_near : (n unit : ℕ) → up_to_unit n unit ≤ n + (unit - 1)
unit_near n unit = unit_below (n + (unit - 1)) unit

pub unit_above : (n unit : ℕ) → 1 ≤ unit → n ≤ up_to_unit n unit
unit_above n unit some =
    let whole = div-add-mod' (n + (unit - 1)) unit in
    let positive : 0 < unit = some in
    let left : (n + (unit - 1)) % unit < unit = mod_less (n + (unit - 1)) unit positive in
    omega (arith, whole, left, some)
  where
    mod_less : (x u : ℕ) → 0 < u → x % u < u
    mod_less x u h = omega arith

-- the powers that a page shift can give
pub power_most : (n : ℕ) → n ≤ 12 → 2 ^ n ≤ 4096
power_most zero le = omega arith
power_most (suc zero) le = omega arith
power_most (suc (suc zero)) le = omega arith
power_most (suc (suc (suc zero))) le = omega arith
power_most (suc (suc (suc (suc zero)))) le = omega arith
power_most (suc (suc (suc (suc (suc zero))))) le = omega arith
power_most (suc (suc (suc (suc (suc (suc zero)))))) le = omega arith
power_most (suc (suc (suc (suc (suc (suc (suc zero))))))) le = omega arith
power_most (suc (suc (suc (suc (suc (suc (suc (suc zero)))))))) le = omega arith
power_most (suc (suc (suc (suc (suc (suc (suc (suc (suc zero))))))))) le = omega arith
power_most (suc (suc (suc (suc (suc (suc (suc (suc (suc (suc zero)))))))))) le = omega arith
power_most (suc (suc (suc (suc (suc (suc (suc (suc (suc (suc (suc zero))))))))))) le = omega arith
power_most (suc (suc (suc (suc (suc (suc (suc (suc (suc (suc (suc (suc zero)))))))))))) le = omega arith
power_most (suc (suc (suc (suc (suc (suc (suc (suc (suc (suc (suc (suc (suc n))))))))))))) le = absurd (omega arith)
