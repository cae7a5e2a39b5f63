-- Items of lists that count from 1.
use Rattle.std.specs.Prelude.{◌≡◌, ℕ, zero, suc, List, map, refl}
use Rattle.std.specs.Option.{option_map}
use Rattle.std.proofs.lemmas.Option.{slice_get-map}
use Rattle.obj_types.specs.Items.{item}

-- The item of a list that was mapped.
pub item-mapped : {X Y : Type 0} (f : X → Y) (xs : List X) (n : ℕ) → item (map f xs) n ≡ option_map f (item xs n)
item-mapped f xs zero = refl
item-mapped f xs (suc n) = slice_get-map f xs n
