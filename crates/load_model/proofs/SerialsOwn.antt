-- Residences of one serial number are one.
use Rattle.std.proofs.Common.{◌≡◌, ℕ, ◌<◌, ◌==◌, Bool, true, false, cond, List, [], ◌∷◌, map, find, Some, sym, ◌∙◌, ap, arith}
use Rattle.load_model.specs.State.{Residence, residence_of}
use Rattle.load_model.specs.Histories.{state_after}
use Rattle.load_model.specs.Serials.{Rise, SerialsAreOwn}
use Rattle.load_model.proofs.Serials.{serials_rise}

-- what is found among some has a number above the low one
found_above : (f : Residence → Bool) (low high : ℕ) (rs : List Residence) (r : Residence) → Rise low (map (λ x. x.serial) rs) high → find f rs ≡ Some r → low < r.serial
found_above f low high [] r rise is = cc
found_above f low high (x ∷ rs) r rise is = step (f x) is (found_above f x.serial high rs r rise.1)
  where
    step : (b : Bool) → cond b (Some x) (find f rs) ≡ Some r → (find f rs ≡ Some r → x.serial < r.serial) → low < r.serial
    step true e later = (let same : x.serial ≡ r.serial = serial_same x r cc in let first : low < x.serial = rise.0 in omega (arith, same, first))
      where
        serial_same : (a b : Residence) → a ≡ b → a.serial ≡ b.serial
        serial_same a b e = ap (λ (y : Residence). y.serial) e
    step false e later = (let above : x.serial < r.serial = later e in let first : low < x.serial = rise.0 in omega (arith, above, first))

one_found : (f g : Residence → Bool) (low high : ℕ) (rs : List Residence) (r s : Residence) → Rise low (map (λ x. x.serial) rs) high → find f rs ≡ Some r → find g rs ≡ Some s →
    r.serial ≡ s.serial → r ≡ s
one_found f g low high [] r s rise is other same = cc
one_found f g low high (x ∷ rs) r s rise is other same =
    step (f x) (g x) is other (one_found f g x.serial high rs r s rise.1) (found_above f x.serial high rs r rise.1) (found_above g x.serial high rs s rise.1)
  where
    apart : (a b : ℕ) → a ≡ b → a < b → ⊥
    apart a b e less = omega (arith, e, less)

    step : (b c : Bool) → cond b (Some x) (find f rs) ≡ Some r → cond c (Some x) (find g rs) ≡ Some s →
        (find f rs ≡ Some r → find g rs ≡ Some s → r.serial ≡ s.serial → r ≡ s) → (find f rs ≡ Some r → x.serial < r.serial) → (find g rs ≡ Some s → x.serial < s.serial) → r ≡ s
    step true true e k later low_r low_s = cc
    step true false e k later low_r low_s =
        let first : x ≡ r = cc in
        absurd (apart x.serial s.serial (ap (λ (y : Residence). y.serial) first ∙ same) (low_s k))
    step false true e k later low_r low_s =
        let first : x ≡ s = cc in
        absurd (apart x.serial r.serial (ap (λ (y : Residence). y.serial) first ∙ sym same) (low_r e))
    step false false e k later low_r low_s = later e k same

pub serials_are_own : SerialsAreOwn
unfolding residence_of
serials_are_own lib failing contents h m k r s legal is other same =
    one_found (λ x. x.«module» == m) (λ x. x.«module» == k) 0 (state_after lib failing h).serials (state_after lib failing h).residences r s (serials_rise lib failing contents h legal) is other same
