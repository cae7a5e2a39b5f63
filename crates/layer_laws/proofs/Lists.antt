-- Lists and tests that the other pages use.
use Rattle.std.specs.Prelude.{Bool, not, List, [], ◌∷◌}
use Rattle.std.specs.List.{AllByRecursion}
use Rattle.link_model.specs.Appearance.{firsts}
use Rattle.link_model.proofs.Members.{In, here, there, from_filter}

-- What holds of each that is in a list holds of all of it.
pub each-of : {X : Type 0} (P : X → Type 0) (xs : List X) → ((x : X) → In x xs → P x) → AllByRecursion P xs
each-of P [] all = tt
each-of P (x ∷ xs) all = (all x here, each-of P xs (λ y i. all y (there i)))

-- A table by first appearance has nothing but items.
pub from-firsts : {X : Type 0} (same : X → X → Bool) (xs : List X) {x : X} → In x (firsts same xs) → In x xs
from-firsts same [] i = i
from-firsts same (y ∷ xs) here = here
from-firsts same (y ∷ xs) (there i) = there (from-firsts same xs (from_filter (λ z. not (same y z)) (firsts same xs) i))
