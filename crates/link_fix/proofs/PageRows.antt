-- One more record on a page of a row, before those that are there.
use Rattle.std.specs.Prelude.{◌≡◌, ℕ, zero, suc, ◌<◌, Bool, cond, ◌==◌, List, [], ◌∷◌, ◌++◌, slice_get, slice_set, length, reverse}
use Rattle.std.specs.Option.{option_map_or}
use Rattle.std.specs.Global.{Vec}
use Rattle.std.proofs.Common.{ap, sym, ◌∙◌, arith, get_or}
use Rattle.std.proofs.lemmas.Bool.{ne_eqb}
use Rattle.std.proofs.lemmas.List.{reverse-append}
use Rattle.std.proofs.lemmas.Bool.Decides.{nat_tests}
use Rattle.lx_types.specs.declared.fix.Fix.{Fix}
use Rattle.link_fix.specs.Paging.{page_in}

abbrev pub in_rows : List (Vec (Vec Fix)) → ℕ → ℕ → List Fix
in_rows rows n k = option_map_or (λ row. page_in row.items k) (slice_get rows n) []

abbrev pub with_fix : ℕ → Fix → ℕ → List Fix → List Fix
with_fix page fix k fixes = cond (page == k) (fix ∷ fixes) fixes

next_same : (i j : ℕ) → (i == j) ≡ (suc i == suc j)
next_same i j = grind (arith, nat_tests)

pub push-row : (rows : List (Vec (Vec Fix))) (row page : ℕ) (old new : Vec (Vec Fix)) (fix : Fix) → row < length rows → old ≡ get_or rows row old → ((k : ℕ) → page_in new.items k ≡ with_fix page fix k (page_in old.items k))
    → (n k : ℕ) → in_rows (slice_set rows row new) n k ≡ cond (row == n) (with_fix page fix k (in_rows rows n k)) (in_rows rows n k)
push-row [] row page old new fix h is made n k = absurd (omega arith)
push-row (r ∷ rs) zero page old new fix h is made zero k = made k ∙ ap (λ (v : Vec (Vec Fix)). with_fix page fix k (page_in v.items k)) is
push-row (r ∷ rs) zero page old new fix h is made (suc n) k =
    sym (ap (λ (b : Bool). cond b (with_fix page fix k (in_rows rs n k)) (in_rows rs n k)) (ne_eqb 0 (suc n) (λ e. omega (arith, e))))
push-row (r ∷ rs) (suc row) page old new fix h is made zero k =
    sym (ap (λ (b : Bool). cond b (with_fix page fix k (page_in r.items k)) (page_in r.items k)) (ne_eqb (suc row) 0 (λ e. omega (arith, e))))
push-row (r ∷ rs) (suc row) page old new fix h is made (suc n) k =
    push-row rs row page old new fix (omega arith) is made n k
    ∙ ap (λ (b : Bool). cond b (with_fix page fix k (in_rows rs n k)) (in_rows rs n k)) (next_same row n)

pub push-page : (row : List (Vec Fix)) (page : ℕ) (old new : Vec Fix) (fix : Fix) → page < length row → old ≡ get_or row page old → new.items ≡ old.items ++ fix ∷ []
    → (k : ℕ) → page_in (slice_set row page new) k ≡ cond (page == k) (fix ∷ page_in row k) (page_in row k)
push-page [] page old new fix h is made k = absurd (omega arith)
push-page (p ∷ ps) zero old new fix h is made zero = ap reverse made ∙ reverse-append old.items (fix ∷ []) ∙ ap (λ (v : Vec Fix). fix ∷ reverse v.items) is
push-page (p ∷ ps) zero old new fix h is made (suc k) =
    sym (ap (λ (b : Bool). cond b (fix ∷ page_in ps k) (page_in ps k)) (ne_eqb 0 (suc k) (λ e. omega (arith, e))))
push-page (p ∷ ps) (suc page) old new fix h is made zero =
    sym (ap (λ (b : Bool). cond b (fix ∷ reverse p.items) (reverse p.items)) (ne_eqb (suc page) 0 (λ e. omega (arith, e))))
push-page (p ∷ ps) (suc page) old new fix h is made (suc k) =
    push-page ps page old new fix (omega arith) is made k
    ∙ ap (λ (b : Bool). cond b (fix ∷ page_in ps k) (page_in ps k)) (next_same page k)
