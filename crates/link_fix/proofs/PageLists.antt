-- A row that is cut to some pages, or filled up to them, as lists.
use Rattle.std.specs.Prelude.{◌≡◌, ℕ, zero, suc, ◌<◌, List, [], ◌∷◌, Result, IfOk, map, reverse, take, length, refl}
use Rattle.std.specs.List.{range_with_len}
use Rattle.std.specs.Global.{Vec}
use Rattle.std.proofs.Common.{◌∙◌, arith, get_or, subst}
use Rattle.std.proofs.lemmas.List.{length-map}
use Rattle.std.proofs.lemmas.List.FromFn.{fill_by_all}
use Rattle.lx_types.specs.declared.fix.Fix.{Fix}
use Rattle.link_fix.specs.Paging.{page_in}

pub page-take : (row : List (Vec Fix)) (count k : ℕ) → k < count → page_in (take count row) k ≡ page_in row k
page-take row zero k h = absurd (omega arith)
page-take [] (suc count) k h = refl
page-take (page ∷ row) (suc count) zero h = refl
page-take (page ∷ row) (suc count) (suc k) h = page-take row count k (omega arith)

list-at : (row : List (Vec Fix)) (k : ℕ) → get_or (map (λ page. reverse page.items) row) k [] ≡ page_in row k
list-at [] k = refl
list-at (page ∷ row) zero = refl
list-at (page ∷ row) (suc k) = list-at row k

pub lists-fitted : (row fitted : List (Vec Fix)) (count : ℕ) → length fitted ≡ count → ((k : ℕ) → k < count → page_in fitted k ≡ page_in row k)
    → map (λ page. reverse page.items) fitted ≡ map (page_in row) (range_with_len 0 count)
lists-fitted row fitted count long same =
    fill_by_all (page_in row) (map (λ page. reverse page.items) fitted) count [] (length-map fitted (λ (page : Vec Fix). reverse page.items) ∙ long) (λ k h. list-at fitted k ∙ same k h)

-- An answer's list, named otherwise.
pub if_ok_as : {E : Type 0} (result : Result (List (List Fix)) E) (xs ys : List (List Fix)) → IfOk result (λ list. list ≡ xs) → xs ≡ ys → IfOk result (λ list. list ≡ ys)
if_ok_as result xs ys is same = subst (λ (zs : List (List Fix)). IfOk result (λ list. list ≡ zs)) same is
