-- One entry of a table after those before it.
use Rattle.std.proofs.Common.{◌≡◌, ℕ, ◌+◌, ◌<◌, List, [], ◌++◌, length, take, sym, ap, ◌∙◌, get_or}
use Rattle.std.specs.List.{flat_map}
use Rattle.std.proofs.lemmas.List.{flat_map_more, take_more}

pub more : {X : Type 0} (f : X → List ℕ) (xs : List X) (i : ℕ) (d : X) (out bytes after : List ℕ) → i < length xs → out ≡ flat_map f (take i xs) → bytes ≡ f (get_or xs i d) → after ≡ out ++ bytes → after ≡ flat_map f (take (i + 1) xs)
more f xs i d out bytes after lt before entry beyond =
    beyond ∙ ap (λ (o : List ℕ). o ++ bytes) before ∙ ap (λ (b : List ℕ). flat_map f (take i xs) ++ b) entry ∙ flat_map_more f [] (take i xs) (get_or xs i d) ∙ sym (ap (flat_map f) (take_more xs i d lt))
