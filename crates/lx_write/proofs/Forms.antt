-- The form of a page.
use Rattle.std.proofs.Common.{◌≡◌, ℕ, zero, suc, ◌-◌, ◌<◌, Bool, true, false, List, [], ◌∷◌, ◌++◌, length, drop, refl, sym, ap, ◌∙◌, Some, None, cond, arith}
use Rattle.std.specs.Prelude.{replicate, nat_lt}
use Rattle.lx_types.specs.declared.object.TheConstants.{PAGE_SIZE}
use Rattle.lx_model.specs.Iterated.{groups_spelling}
use Rattle.lx_model.specs.Packed.{data_of, before_data, filled, packed, groups_of, shorter_than}
use Rattle.image_model.specs.Image.{plain, iterated, zeros}
use Rattle.image_model.specs.PageForms.{form_of_page, form_of_data}

zeros_empty : (n : ℕ) → data_of (replicate n 0) ≡ []
zeros_empty zero = refl
zeros_empty (suc n) = rw (zeros_empty n) refl

zeros_after : (bytes : List ℕ) (n : ℕ) → data_of (bytes ++ replicate n 0) ≡ data_of bytes
zeros_after [] n = zeros_empty n
zeros_after (b ∷ bytes) n = ap (before_data b) (zeros_after bytes n)

data_filled : (page : List ℕ) → data_of (filled page) ≡ data_of page
data_filled page = zeros_after page (PAGE_SIZE - length page)

-- ---- zeros after bytes

zeros_dropped : (n m : ℕ) → drop {A = ℕ} n (replicate m 0) ≡ replicate (m - n) 0
zeros_dropped zero m = ap (λ (k : ℕ). replicate k 0) (let e : m ≡ m - 0 = omega arith in e)
zeros_dropped (suc n) zero = ap (λ (k : ℕ). replicate k 0) (let e : 0 ≡ 0 - suc n = omega arith in e)
zeros_dropped (suc n) (suc m) = zeros_dropped n m ∙ ap (λ (k : ℕ). replicate k 0) (let e : m - n ≡ suc m - suc n = omega arith in e)

pub zeros_left : (bytes : List ℕ) → bytes ++ drop (length bytes) (replicate 4096 0) ≡ filled bytes
zeros_left bytes = ap (λ zs. bytes ++ zs) (zeros_dropped (length bytes) 4096)

-- ---- forms

iterated_with : (d gs : List ℕ) (bytes : List ℕ) → shorter_than d gs ≡ Some bytes → (nat_lt (length gs) (length d) ≡ true) × (gs ≡ bytes)
iterated_with d gs bytes is = by_test (nat_lt (length gs) (length d)) refl is
  where
    by_test : (b : Bool) → nat_lt (length gs) (length d) ≡ b → cond b (Some gs) None ≡ Some bytes → (nat_lt (length gs) (length d) ≡ true) × (gs ≡ bytes)
    by_test true e is = (e, let same : gs ≡ bytes = cc in same)
    by_test false e is = absurd cc

plain_with : (d gs : List ℕ) → shorter_than d gs ≡ None → nat_lt (length gs) (length d) ≡ false
plain_with d gs is = by_test (nat_lt (length gs) (length d)) refl is
  where
    by_test : (b : Bool) → nat_lt (length gs) (length d) ≡ b → cond b (Some gs) None ≡ None → nat_lt (length gs) (length d) ≡ false
    by_test true e is = absurd cc
    by_test false e is = e

data_iterated : (d bytes : List ℕ) → shorter_than d (groups_spelling (groups_of d)) ≡ Some bytes → form_of_data d ≡ iterated (groups_of d)
data_iterated [] bytes is = let e : false ≡ true = (iterated_with [] (groups_spelling (groups_of [])) bytes is).0 in absurd cc
data_iterated (b ∷ d) bytes is = rw ((iterated_with (b ∷ d) (groups_spelling (groups_of (b ∷ d))) bytes is).0) refl

data_plain : (d : List ℕ) → 0 < length d → shorter_than d (groups_spelling (groups_of d)) ≡ None → form_of_data d ≡ plain d
data_plain [] some is = absurd (omega (arith, some))
data_plain (b ∷ d) some is = rw (plain_with (b ∷ d) (groups_spelling (groups_of (b ∷ d))) is) refl

pub empty_page : (page : List ℕ) → length (data_of page) ≡ 0 → form_of_page page ≡ zeros
unfolding form_of_page
empty_page page none = by_data (data_of page) none
  where
    by_data : (d : List ℕ) → length d ≡ 0 → form_of_data d ≡ zeros
    by_data [] none = refl
    by_data (b ∷ d) none = absurd (let n : suc (length d) ≡ 0 = none in omega arith)

pub iterated_page : (page bytes : List ℕ) → packed (filled page) ≡ Some bytes → (form_of_page page ≡ iterated (groups_of (data_of page))) × (groups_spelling (groups_of (data_of page)) ≡ bytes)
unfolding form_of_page
iterated_page page bytes is =
    let here : shorter_than (data_of page) (groups_spelling (groups_of (data_of page))) ≡ Some bytes = ap (λ d. shorter_than d (groups_spelling (groups_of d))) (sym (data_filled page)) ∙ is in
    (data_iterated (data_of page) bytes here, (iterated_with (data_of page) (groups_spelling (groups_of (data_of page))) bytes here).1)

pub plain_page : (page : List ℕ) → 0 < length (data_of page) → packed (filled page) ≡ None → form_of_page page ≡ plain (data_of page)
unfolding form_of_page
plain_page page some is = data_plain (data_of page) some (ap (λ d. shorter_than d (groups_spelling (groups_of d))) (sym (data_filled page)) ∙ is)
