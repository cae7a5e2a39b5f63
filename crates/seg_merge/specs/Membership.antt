-- Which groups the logical segments are in, by places.
use Rattle.std.specs.Prelude.{◌≡◌, ℕ, ◌<◌, ◌==◌, Bool, List, Option, Some, None, All, length, get_or}
use Rattle.std.specs.List.{list_any}
use Rattle.link_model.specs.Parts.{Part}

abbrev pub both : Option ℕ → Option ℕ → Option (ℕ × ℕ)
both (Some a) (Some b) = Some (a, b)
both (Some a) None = None
both None b = None

-- Each of these lists has the places of the groups that a logical segment is in.
pub record AreGroupsOf (is_in : List ℕ → Part → Bool) (names : List (List ℕ)) (heads : List Part) (lists : List (List ℕ)) : Type 0 where
  pub one_each : length lists ≡ length heads
  pub below : (k : ℕ) (d : List ℕ) → k < length lists → All (λ g. g < length names) (get_or lists k d)
  pub members : (k g : ℕ) (d n : List ℕ) (h : Part) → k < length heads → g < length names →
      list_any (λ j. j == g) (get_or lists k d) ≡ is_in (get_or names g n) (get_or heads k h)
