-- One more item after those that were written.
use Rattle.std.proofs.Common.{◌≡◌, ℕ, ◌+◌, ◌<◌, List, ◌++◌, length, take, sym, ap, ◌∙◌, get_or}
use Rattle.std.specs.List.{flat_map}
use Rattle.std.proofs.lemmas.List.{flat_map_more, take_more}

pub more : {X : Type 0} (f : X → List ℕ) (xs : List X) (i : ℕ) (d : X) (start out after : List ℕ) → i < length xs → out ≡ start ++ flat_map f (take i xs) → after ≡ out ++ f (get_or xs i d) → after ≡ start ++ flat_map f (take (i + 1) xs)
more f xs i d start out after lt before beyond =
    beyond ∙ ap (λ (o : List ℕ). o ++ f (get_or xs i d)) before ∙ flat_map_more f start (take i xs) (get_or xs i d) ∙ sym (ap (λ ys. start ++ flat_map f ys) (take_more xs i d lt))
