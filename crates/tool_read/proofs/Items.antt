-- What the items of a resource file have is no more than the file has.
use Rattle.std.proofs.Common.{◌≡◌, ℕ, suc, ◌+◌, ◌≤◌, List, [], ◌∷◌, length, ap, arith, length-append}
use Rattle.std.specs.List.{sum_by}
use Rattle.std.proofs.lemmas.List.Sums.{sum_by-cons}
use Rattle.res_model.specs.declared.item.TheConstants.{FIELDS}
use Rattle.res_model.specs.ResFile.{item_spelling, items_spelling, IsResFile}
use Rattle.res_model.specs.declared.item.ResItem.{ResItem}

twelve : (n : ℕ) → suc (suc (suc (suc (suc (suc (suc (suc (suc (suc (suc (suc n))))))))))) ≡ 12 + n
twelve n = omega arith

spelled_length : (i : ResItem) → length (item_spelling i) ≡ FIELDS + length i.bytes
spelled_length i = twelve (length i.bytes)

bytes_fit : (items : List ResItem) → sum_by (λ i. length i.bytes) items ≤ length (items_spelling items)
bytes_fit [] = omega arith
bytes_fit (i ∷ items) =
    omega (arith, bytes_fit items, sum_by-cons (λ (j : ResItem). length j.bytes) i items, length-append (item_spelling i) (items_spelling items), spelled_length i)

pub small : (bytes : List ℕ) (items : List ResItem) (limit : ℕ) → IsResFile bytes items → length bytes ≤ limit → sum_by (λ i. length i.bytes) items ≤ limit
small bytes items limit h le = omega (arith, bytes_fit items, ap length h.spelled, le)
