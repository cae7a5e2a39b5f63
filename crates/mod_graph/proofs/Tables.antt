-- What a table of all modules has for one of them.
use Rattle.std.proofs.Common.{◌≡◌, ℕ, ◌<◌, ◌∙◌, List, map, get_or, ap, arith}
use Rattle.std.proofs.lemmas.List.FromFn.{get_or-map-range_with_len}
use Rattle.std.specs.List.{range_with_len}

pub table_at : {A : Type 0} (f : ℕ → A) (table : List A) (n m : ℕ) (d : A) → table ≡ map f (range_with_len 0 n) → m < n → get_or table m d ≡ f m
table_at f table n m d is below = ap (λ xs. get_or xs m d) is ∙ get_or-map-range_with_len f 0 n m m d below (omega arith)
