-- Four bytes are twice two.
use Rattle.std.proofs.Common.{◌≡◌, ℕ, ◌+◌, ◌*◌, List, [], ◌∷◌, take, drop, refl, arith, ap, ◌∙◌}
use Rattle.std.proofs.lemmas.List.{drop-drop}
use Rattle.lx_bytes.specs.LittleEndian.{little}
use Rattle.lx_model.specs.Reading.{number_at}

four_is_twice_two : (f : List ℕ) → little (take 4 f) ≡ little (take 2 f) + 65536 * little (take 2 (drop 2 f))
four_is_twice_two [] = refl
four_is_twice_two (a ∷ []) = omega arith
four_is_twice_two (a ∷ b ∷ []) = omega arith
four_is_twice_two (a ∷ b ∷ c ∷ []) = omega arith
four_is_twice_two (a ∷ b ∷ c ∷ d ∷ rest) = omega arith

pub doubleword_is_words : (f : List ℕ) (at : ℕ) → number_at 4 f at ≡ number_at 2 f at + 65536 * number_at 2 f (at + 2)
doubleword_is_words f at = four_is_twice_two (drop at f) ∙ ap (λ (g : List ℕ). number_at 2 f at + 65536 * little (take 2 g)) (drop-drop 2 at f)
