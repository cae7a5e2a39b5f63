-- The ordinals of exports, as marks tell them.
use Rattle.std.proofs.Common.{◌≡◌, ℕ, suc, ◌<◌, ◌≤◌, ◌⊎◌, ◌==◌, ◌||◌, Bool, true, false, List, [], ◌∷◌, length, get_or, refl, sym, ap, ◌∙◌, inl, inr, arith}
use Rattle.std.specs.Prelude.{All, slice_index_or}
use Rattle.std.specs.List.{list_any}
use Rattle.std.proofs.lemmas.Bool.{cases_lt}
use Rattle.std.proofs.lemmas.Bool.Decides.{nat_tests}
use Rattle.std.proofs.lemmas.List.{get_or_past, get_or_default}
use Rattle.std.proofs.lemmas.List.Folds.{list_any_none}
use Rattle.link_model.specs.Exports.{ordinals}
use Rattle.lx_exports.specs.declared.exports.OutEntry.{OutEntry}
use Rattle.lx_exports.specs.Exports.{asked, with_ordinals, exported_of}
use Rattle.lx_exports.specs.Marks.{AreMarksOf}
use Rattle.lx_exports.proofs.TablesWritten.{all_numbered}
use Rattle.lx_exports.proofs.GivenOrdinals.{asked_len}

not_over : (n k : ℕ) → n < 65536 → 65536 ≤ k → (n == k) ≡ false
not_over n k short long = grind (arith, nat_tests)

-- marks tell each number, also one that has no mark
pub marks_tell : (marks : List Bool) (numbers : List ℕ) → AreMarksOf marks numbers → ((i : ℕ) → i < length numbers → get_or numbers i 0 < 65536) → (k : ℕ) → slice_index_or marks k false ≡ list_any (λ n. n == k) numbers
marks_tell marks numbers are fit k = by (cases_lt k 65536)
  where
    by : (k < 65536) ⊎ (65536 ≤ k) → slice_index_or marks k false ≡ list_any (λ n. n == k) numbers
    by (inl short) = are.each k short
    by (inr long) =
        get_or_past marks k false (omega (arith, are.all, long))
        ∙ sym (list_any_none (λ n. n == k) numbers (λ i d there. not_over (get_or numbers i d) k (subst_fit i d there) long))
      where
        subst_fit : (i d : ℕ) → i < length numbers → get_or numbers i d < 65536
        subst_fit i d there = let same = get_or_default numbers i d 0 there in let h = fit i there in omega (arith, same, h)

-- an export has the ordinal that it was given
told : (xs : List OutEntry) (ns : List ℕ) (k : ℕ) → length ns ≡ length xs → list_any (λ n. n == k) ns ≡ list_any (λ x. x.ordinal == k) (with_ordinals xs ns)
told [] [] k same = refl
told [] (n ∷ ns) k same = absurd (omega (arith, same))
told (x ∷ xs) [] k same = absurd (omega (arith, same))
told (x ∷ xs) (n ∷ ns) k same = ap (λ b. (n == k) || b) (told xs ns k (omega (arith, same)))

pub exports_told : (xs : List OutEntry) (k : ℕ) → list_any (λ n. n == k) (ordinals (asked xs)) ≡ list_any (λ x. x.ordinal == k) (exported_of xs)
exports_told xs k = told xs (ordinals (asked xs)) k (all_numbered (asked xs) ∙ asked_len xs)
