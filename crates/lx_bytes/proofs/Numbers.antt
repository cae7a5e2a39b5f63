-- Bytes and numbers stand for one another.
use Rattle.std.proofs.Common.{◌≡◌, ℕ, zero, suc, ◌+◌, ◌*◌, ◌/◌, ◌%◌, ◌^◌, ◌<◌, List, [], ◌∷◌, length, refl, arith}
use Rattle.std.proofs.Math.Nat.{div-lt_iff_lt-mul, mod-add-div, pow-suc}
use Rattle.lx_bytes.specs.LittleEndian.{AreBytes, little, little_bytes}

pub length-little_bytes : (n x : ℕ) → length (little_bytes n x) ≡ n
length-little_bytes zero x = refl
length-little_bytes (suc n) x =
    let rest = length-little_bytes n (x / 256) in
    omega (arith, rest)

-- a number that n bytes can spell is read back from them
pub little-little_bytes : (n x : ℕ) → x < 256 ^ n → little (little_bytes n x) ≡ x
little-little_bytes zero x fits = omega (arith, fits)
little-little_bytes (suc n) x fits =
    let product : x < 256 ^ n * 256 = rw (← pow-suc 256 n) fits in
    let high : x / 256 < 256 ^ n = (div-lt_iff_lt-mul {k = 256} {x = x} {y = 256 ^ n} (omega arith)).1 product in
    let rest = little-little_bytes n (x / 256) high in
    rw rest (mod-add-div x 256)

-- bytes that a number was read from are written back
pub little_bytes-little : (bs : List ℕ) → AreBytes bs → little_bytes (length bs) (little bs) ≡ bs
little_bytes-little [] bytes = refl
little_bytes-little (b ∷ bs) bytes =
    let byte : b < 256 = bytes 0 in
    let rest = little_bytes-little bs (λ i. bytes (suc i)) in
    let low : (b + 256 * little bs) % 256 ≡ b = omega (arith, byte) in
    let high : (b + 256 * little bs) / 256 ≡ little bs = omega (arith, byte) in
    rw (low, high, rest) refl
