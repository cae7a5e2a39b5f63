-- Both orders of publics are total, and only equal ones tie.
use Rattle.std.specs.Prelude.{◌≡◌, ℕ, List, refl}
use Rattle.std.specs.declared.cmp.Ordering.{Ordering}
use Rattle.std.specs.declared.cmp.Ordering.TheVariants.{Less, Equal, Greater}
use Rattle.std.specs.Ordering.{nat_cmp, ordering_then, is_eq}
use Rattle.std.specs.Cmp.{IsTotalOrder}
use Rattle.std.specs.FinMap.{IsAntisymmetric, nat_cmp-IsAntisymmetric, slice_cmp-IsAntisymmetric}
use Rattle.std.proofs.Common.{ap, sym, true≢false}
use Rattle.std.proofs.lemmas.Cmp.{nat_cmp_total, nat_list_cmp_total, on_total, then_total}
use Rattle.map_model.specs.Listed.{Listed}
use Rattle.map_model.specs.Maps.{name_cmp, by_number, by_name}

pub by_number-total : IsTotalOrder by_number
by_number-total = then_total (on_total (λ p. p.number) nat_cmp_total) (on_total (λ p. p.name) nat_list_cmp_total)

pub by_name-total : IsTotalOrder by_name
by_name-total = then_total (on_total (λ p. p.name) nat_list_cmp_total) (on_total (λ p. p.number) nat_cmp_total)

-- Two that tie by one order and then the other tie in both.
both_tie : (r s : Ordering) → ordering_then r s ≡ Equal → (r ≡ Equal) × (s ≡ Equal)
both_tie Equal s e = (refl, e)
both_tie Less s e = absurd (true≢false (sym (ap is_eq e)))
both_tie Greater s e = absurd (true≢false (sym (ap is_eq e)))

names_tie : (a b : List ℕ) → name_cmp a b ≡ Equal → a ≡ b
names_tie a b e = slice_cmp-IsAntisymmetric nat_cmp-IsAntisymmetric a b e

listed_is : (a b : Listed) → a.number ≡ b.number → a.name ≡ b.name → a ≡ b
listed_is a b n m i = record { number = n i; name = m i }

pub by_number-apart : IsAntisymmetric by_number
by_number-apart a b e =
    let both = both_tie (nat_cmp a.number b.number) (name_cmp a.name b.name) e in
    listed_is a b (nat_cmp-IsAntisymmetric a.number b.number both.0) (names_tie a.name b.name both.1)

pub by_name-apart : IsAntisymmetric by_name
by_name-apart a b e =
    let both = both_tie (name_cmp a.name b.name) (nat_cmp a.number b.number) e in
    listed_is a b (nat_cmp-IsAntisymmetric a.number b.number both.1) (names_tie a.name b.name both.0)
