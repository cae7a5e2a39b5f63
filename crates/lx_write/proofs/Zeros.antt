-- A page of zeros.
use Rattle.std.proofs.Common.{◌≡◌, ℕ, zero, suc, Bool, true, List, [], take, replicate, refl, ap, ◌∙◌}
use Rattle.std.specs.Prelude.{nat_eq}
use Rattle.std.specs.Cmp.Lexicographic.{pointwise}
use Rattle.std.proofs.lemmas.Bool.Decides.{Decides-eqb}
use Rattle.std.proofs.lemmas.Slice.Eq.{slice_eq-Decides}
use Rattle.lx_model.specs.Packed.{before_data, data_of}

zeros-none : (n m : ℕ) → data_of (take n (replicate m 0)) ≡ []
zeros-none zero m = refl
zeros-none (suc n) zero = refl
zeros-none (suc n) (suc m) = ap (before_data 0) (zeros-none n m)

-- Bytes that are equal to zeros have no data.
pub zero_page : (page : List ℕ) (n m : ℕ) (r : Bool) → r ≡ pointwise nat_eq page (take n (replicate m 0)) → r ≡ true → data_of page ≡ []
zero_page page n m r is holds = ap data_of ((slice_eq-Decides Decides-eqb page (take n (replicate m 0)) r is).0 holds) ∙ zeros-none n m
