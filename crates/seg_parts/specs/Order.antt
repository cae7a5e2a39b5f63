-- Logical segments by their numbers, in the order in which they stand.
use Rattle.std.specs.Prelude.{ℕ, ◌==◌, List, map, filter, bytes_eq, length}
use Rattle.std.specs.List.{flat_map, enumerate_from, range_with_len}
use Rattle.link_model.specs.Appearance.{firsts}
use Rattle.link_model.specs.Parts.{Part}
use Rattle.seg_parts.specs.LogicalSegments.{places}

-- Where a number stands among these, from 0.
abbrev pub places_with : List ℕ → ℕ → List ℕ
places_with numbers n = map (λ q. q.0) (filter (λ q. q.1 == n) (enumerate_from 0 numbers))

-- The same for each number below a count.
abbrev pub gathered : List ℕ → ℕ → List (List ℕ)
gathered numbers count = map (places_with numbers) (range_with_len 0 count)

-- The number of each logical segment's class, and how many classes there are.
abbrev pub class_numbers : List Part → List ℕ
class_numbers ss = places bytes_eq (map (λ s. s.class) ss)

abbrev pub class_count : List Part → ℕ
class_count ss = length (firsts bytes_eq (map (λ s. s.class) ss))

-- These logical segments class by class.
abbrev pub by_class_of : List Part → List Part
by_class_of ss = flat_map (λ c. filter (λ s. bytes_eq s.class c) ss) (firsts bytes_eq (map (λ s. s.class) ss))
